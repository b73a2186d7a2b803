use Rattle.bx_shard.proofs.Parts.{WentSoFar}
use Rattle.bx_shard.proofs.upward.catch_up_each.Given as goal

abbrev pub invariant-loop-shard : goal.invariant-loop-shard
invariant-loop-shard g l = WentSoFar g.P.Placing.place_of l.entries l.shard-index l.initial.shard-items l.shard-items
