use Rattle.std.proofs.Common.{◌≡◌, ◌≤◌, length, reverse, vec_capacity}
use Rattle.std.specs.{BTreeMap.IsOrdered, Ordering.nat_cmp}
use Rattle.bx_fanout.specs.HeldInputs.{Gives, answered_places}
use Rattle.bx_fanout.proofs.held_inputs.give_from.Given as goal

abbrev pub invariant-loop-place : goal.invariant-loop-place
invariant-loop-place l = record {
  marked : l.answered.items ≡ reverse (answered_places l.held.entries);
  ordered : IsOrdered nat_cmp l.held;
  gives : Gives l.fn.held.entries l.fn.outs.items l.outs.items l.held.entries;
  fewer : length l.answered.items ≤ length l.fn.answered.items;
  capacity : vec_capacity l.answered ≡ vec_capacity l.fn.answered;
}

abbrev pub decreases-loop-place : goal.decreases-loop-place
decreases-loop-place l = length l.answered.items
