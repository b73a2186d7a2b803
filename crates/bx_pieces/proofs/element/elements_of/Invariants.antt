use Rattle.std.proofs.Common.{◌≡◌, map, take}
use Rattle.bx_message.specs.Texts.{item_text}
use Rattle.bx_pieces.specs.Elements.{element_text}
use Rattle.bx_pieces.proofs.element.elements_of.Given as goal

abbrev pub invariant-loop-item : goal.invariant-loop-item
invariant-loop-item l = map element_text l.elements.items ≡ map item_text (take l.item-index l.items)
