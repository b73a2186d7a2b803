use Rattle.std.proofs.Common.{◌≡◌, ◌+◌, ◌≤◌, ◌++◌, vec_capacity, vec_len, IsPermutation}
use Rattle.std.specs.BinaryHeap.{IsHeap, heap_capacity, heap_items, heap_len}
use Rattle.bx_roster.specs.Queues.{IsLateBy, due_order}
use Rattle.bx_roster.proofs.due_queue.move_before.Given as goal

abbrev pub invariant-loop-due : goal.invariant-loop-due
invariant-loop-due l =
    IsHeap due_order (heap_items l.waiting) × (heap_capacity l.waiting ≡ heap_capacity l.fn.waiting) × (vec_capacity l.fn.late ≤ vec_capacity l.late)
    × (vec_len l.late + heap_len l.waiting ≤ vec_capacity l.late) × IsPermutation (l.fn.late.items ++ heap_items l.fn.waiting) (l.late.items ++ heap_items l.waiting)
    × IsLateBy l.moment l.fn.late.items l.late.items

abbrev pub decreases-loop-due : goal.decreases-loop-due
decreases-loop-due l = heap_len l.waiting
