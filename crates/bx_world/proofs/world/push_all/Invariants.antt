use Rattle.std.proofs.Common.{◌≡◌, ◌+◌, ◌≤◌, ◌++◌, length}
use Rattle.std.specs.VecDeque.{deque_capacity, deque_len}
use Rattle.bx_world.proofs.world.push_all.Given as goal

abbrev pub invariant-loop-entry : goal.invariant-loop-entry
invariant-loop-entry l = record {
  whole : l.kept.items ++ l.entry-iterator.rest.items ≡ l.fn.kept.items ++ l.fn.entries;
  room : deque_len l.kept + length l.entry-iterator.rest.items ≤ deque_capacity l.kept;
}
