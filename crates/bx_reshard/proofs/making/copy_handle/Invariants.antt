use Rattle.std.proofs.Common.{◌≡◌, length}
use Rattle.std.specs.Arc.{arc_value}
use Rattle.bx_reshard.specs.Making.{AreHandlesOf}
use Rattle.bx_reshard.proofs.making.copy_handle.Given as goal

abbrev pub invariant-loop-index : goal.invariant-loop-index
invariant-loop-index g l = record {
  many : length l.handles.items ≡ l.index;
  same : AreHandlesOf (arc_value l.placing) l.handles.items;
}
