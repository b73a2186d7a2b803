use Rattle.std.proofs.Common.{◌≡◌, ◌∷◌, map, take}
use Rattle.std.specs.List.{join_with_byte}
use Rattle.bx_message.specs.Texts.{item_text}
use Rattle.bx_message.proofs.write.body_text.Given as goal

abbrev pub invariant-loop-i : goal.invariant-loop-i
invariant-loop-i l = l.out.items ≡ 91 ∷ join_with_byte 44 (map item_text (take l.i l.items))
