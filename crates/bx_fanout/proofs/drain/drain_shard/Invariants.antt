use Rattle.std.proofs.Common.{◌≡◌, List}
use Rattle.bx_world.specs.Seen.{setup_of, world_of}
use Rattle.bx_fanout.specs.Words.{Row, Draining, count_filed}
use Rattle.bx_fanout.proofs.drain.drain_shard.Given as goal

abbrev pub invariant-loop-filing : goal.invariant-loop-filing
invariant-loop-filing g l = record {
  draining : (before : List Row) → Draining (setup_of l.fn.world) before (world_of l.fn.world) l.fn.held l.shard → Draining (setup_of l.fn.world) before (world_of l.world) l.held l.shard;
  list : (world_of l.world).list ≡ (world_of l.fn.world).list;
  applied : (world_of l.world).applied ≡ (world_of l.fn.world).applied;
  setup : setup_of l.world ≡ setup_of l.fn.world;
}

abbrev pub decreases-loop-filing : goal.decreases-loop-filing
decreases-loop-filing g l = count_filed (setup_of l.world) (world_of l.world) l.shard
