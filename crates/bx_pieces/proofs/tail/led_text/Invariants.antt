use Rattle.std.proofs.Common.{◌≡◌, take}
use Rattle.bx_pieces.specs.Tails.{led_text}
use Rattle.bx_pieces.proofs.tail.led_text.Given as goal

abbrev pub invariant-loop-element : goal.invariant-loop-element
invariant-loop-element l = l.out.items ≡ led_text (take l.element-index l.elements)
