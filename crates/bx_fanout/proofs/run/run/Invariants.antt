use Rattle.std.proofs.Common.{◌≡◌, ◌++◌, take}
use Rattle.bx_fanout.specs.RoundStates.{AddsOuts, IsCalm, IsConsistent}
use Rattle.bx_fanout.proofs.run.run.Given as goal

abbrev pub invariant-loop-index : goal.invariant-loop-index
invariant-loop-index g l = IsConsistent l.state × IsCalm l.state × AddsOuts l.initial.state l.initial.outs.items l.outs.items l.state × (l.state.inputs ≡ l.initial.state.inputs ++ take l.index l.inputs)
