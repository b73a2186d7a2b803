use Rattle.bx_shard.proofs.Going.{Goes}
use Rattle.bx_shard.proofs.upward.catch_up.Given as goal

abbrev pub invariant-loop-entry : goal.invariant-loop-entry
invariant-loop-entry g l = Goes g.P.Placing.place_of l.entries l.entry-index l.initial.shard l.shard
