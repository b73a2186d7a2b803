use Rattle.std.proofs.Common.{◌≡◌, ◌≤◌, ℕ, ◌<◌, Some, slice_get, true}
use Rattle.bx_shard.specs.declared.shard.Shard.{Shard}
use Rattle.bx_world.specs.Refining.{some_stands_at}
use Rattle.bx_world.proofs.world.least_place.Given as goal

abbrev pub invariant-loop-shard : goal.invariant-loop-shard
invariant-loop-shard g l = record {
  other : l.least ≤ l.fn.other;
  same : some_stands_at l.fn.other l.shards ≡ true → some_stands_at l.least l.shards ≡ true;
  shards : (k : ℕ) (s : Shard g.row.P.Denot) → k < l.shard-index → slice_get l.shards k ≡ Some s → l.least ≤ s.place;
}
