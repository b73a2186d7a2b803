use Rattle.std.proofs.Common.{length}
use Rattle.bx_fanout.specs.CurrentInputs.{Collects, IsCollected}
use Rattle.bx_entry.specs.Placings.{Setup}
use Rattle.bx_world.specs.Worlds.{WorldState}
use Rattle.bx_fanout.proofs.ready.collect_ready.Given as goal

abbrev pub invariant-loop-alloc : goal.invariant-loop-alloc
invariant-loop-alloc l = record {
  so_far : (setup : Setup) (w : WorldState) → IsCollected setup w l.fn.current → IsCollected setup w l.current;
  collects : Collects l.fn.current l.current;
}

abbrev pub decreases-loop-alloc : goal.decreases-loop-alloc
decreases-loop-alloc l = length l.current.slots.items
