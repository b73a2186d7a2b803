use Rattle.std.proofs.Common.{◌≡◌, ◌++◌, length}
use Rattle.bx_message.specs.Texts.{script_safe}
use Rattle.bx_transport.proofs.response.push_script_safe.Given as goal

abbrev pub invariant-loop-run : goal.invariant-loop-run
invariant-loop-run l = l.out.items ++ script_safe l.rest ≡ l.initial.out.items ++ script_safe l.text

abbrev pub decreases-loop-run : goal.decreases-loop-run
decreases-loop-run l = length l.rest
