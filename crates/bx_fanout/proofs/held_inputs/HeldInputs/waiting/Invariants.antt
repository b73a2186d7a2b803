use Rattle.std.proofs.Common.{◌≡◌, ◌++◌}
use Rattle.std.specs.Map.{values_of}
use Rattle.bx_fanout.proofs.Waiting.{waiting_in}
use Rattle.bx_fanout.proofs.held_inputs.HeldInputs.waiting.Given as goal

abbrev pub invariant-loop-held : goal.invariant-loop-held
invariant-loop-held l = l.numbers.items ++ waiting_in l.held-iterator ≡ waiting_in (values_of l.self)
