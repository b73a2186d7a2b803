use Rattle.std.proofs.Common.{◌≡◌, length, take}
use Rattle.bx_pieces.specs.Tails.{led_text, sent_as}
use Rattle.bx_pieces.proofs.tail.led_size.Given as goal

abbrev pub invariant-loop-element : goal.invariant-loop-element
invariant-loop-element l = l.total ≡ length (sent_as l.is_script (led_text (take l.element-index l.elements)))
