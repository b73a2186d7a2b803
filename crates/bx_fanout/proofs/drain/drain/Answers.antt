use Rattle.std.proofs.Common.{◌≡◌, arith, refl, subst}
use Rattle.std.specs.Arc.{arc_value}
use Rattle.bx_world.specs.Seen.{setup_of, world_of}
use Rattle.bx_fanout.specs.Draining.{Draining}
use Rattle.bx_fanout.proofs.Draining.{draining-first, draining-last}
use Rattle.bx_fanout.proofs.drain.drain.Goals as goal

pub loop-shard-init : goal.loop-shard-init
loop-shard-init g c = record {
  draining = draining-first (setup_of c.args.world.now) (world_of c.args.world.now) c.args.held.now c.requires.can;
  list = refl;
  applied = refl;
  setup = refl;
}

pub returns-clause-drained : goal.returns-clause-drained
returns-clause-drained g c =
    let inv = c.loop-shard.invariant in
    let w = c.args.world.now in
    let all : c.loop-shard.shard ≡ w.registry.shards = omega (arith, c.shards-shard-end.ensures) in
    draining-last (setup_of w) (world_of w) (world_of c.loop-shard.world) c.args.held.now c.loop-shard.held inv.list inv.applied
    (λ session. g.met.P.Placing.is_below (arc_value w.placing) session w.registry.shards w.holds.some_shard w.holds.shards_in_range)
    c.requires.can
    (subst (Draining (setup_of w) c.args.held.now (world_of c.loop-shard.world) c.loop-shard.held) all inv.draining)
