use Rattle.std.proofs.Common.{◌≡◌, length}
use Rattle.std.specs.Arc.{arc_value}
use Rattle.bx_world.proofs.Starting.{AreFirst}
use Rattle.bx_world.proofs.world.World.new.Given as goal

abbrev pub invariant-loop-index : goal.invariant-loop-index
invariant-loop-index g l = record {
  many : length l.shards.items ≡ l.index;
  first : AreFirst g.P.Placing.place_of l.config (arc_value l.placing) l.shards.items;
}
