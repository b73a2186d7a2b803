use Rattle.std.proofs.Common.{map, take}
use Rattle.bx_reshard.specs.Heirs.{AreAllClean, AreLent}
use Rattle.bx_reshard.proofs.lending.lend_all.Given as goal

abbrev pub invariant-loop-shard : goal.invariant-loop-shard
invariant-loop-shard g l = record {
  lent : AreLent (g.P.Placing.place_of l.placing) l.count (map (λ s. s.sessions) (take l.shard-index l.shards)) l.fn.config l.heirs.shards.items;
  clean : AreAllClean l.heirs.shards.items;
}
