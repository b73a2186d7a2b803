use Rattle.std.proofs.Common.{◌≡◌}
use Rattle.bx_world.specs.Seen.{setup_of, world_of}
use Rattle.bx_fanout.specs.Draining.{Draining}
use Rattle.bx_fanout.proofs.drain.drain.Given as goal

abbrev pub invariant-loop-shard : goal.invariant-loop-shard
invariant-loop-shard g l = record {
  draining : Draining (setup_of l.fn.world) l.fn.held (world_of l.world) l.held l.shard;
  list : (world_of l.world).list ≡ (world_of l.fn.world).list;
  applied : (world_of l.world).applied ≡ (world_of l.fn.world).applied;
  setup : setup_of l.world ≡ setup_of l.fn.world;
}
