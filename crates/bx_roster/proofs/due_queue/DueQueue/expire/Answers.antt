use Rattle.std.proofs.Common.{◌++◌, heap_items, length-append, arith}
use Rattle.std.proofs.lemmas.List.Sorted.{length_permutation}
use Rattle.bx_roster.proofs.due_queue.DueQueue.expire.Goals as goal

pub invariant_of-self : goal.invariant_of-self
invariant_of-self c =
    let q = c.self.inside in
    let late = c.move_before.new.late in
    let waiting = c.move_before.new.waiting in
    let same = length_permutation (q.late.items ++ heap_items q.waiting) (late.items ++ heap_items waiting) c.move_before.ensures.same in record {
      heap = c.move_before.ensures.heap;
      fits = omega (arith, same, length-append q.late.items (heap_items q.waiting), length-append late.items (heap_items waiting), c.self.invariant.fits);
      waiting_fits = omega (arith, c.move_before.ensures.capacity, c.self.invariant.waiting_fits);
      late_fits = omega (arith, c.move_before.ensures.late_capacity, c.self.invariant.late_fits);
    }
