use Rattle.std.proofs.Common.{◌≡◌, ◌++◌, take, drop}
use Rattle.bx_message.specs.Texts.{script_safe}
use Rattle.bx_transport.proofs.response.cut_at_separator.Given as goal

abbrev pub invariant-loop-at : goal.invariant-loop-at
invariant-loop-at l = script_safe l.text ≡ take l.at l.text ++ script_safe (drop l.at l.text)
