use Rattle.std.specs.Prelude.{◌≡◌, None}
use Rattle.std.specs.Vec.Iter.{into_iter_items, into_iter_len}
use Rattle.futures.specs.Task.{Keeps}
use Rattle.bx_service.specs.Gatherings.{IsOnWay, left_in}
use Rattle.bx_service.proofs.gathering.ItemsFuture.gather.Given as goal

abbrev pub invariant-loop-slot : goal.invariant-loop-slot
invariant-loop-slot g l =
    IsOnWay g.L.LogId.config l.initial.self.seen l.initial.self.items.items (left_in l.initial.self.held (into_iter_items l.initial.self.slots))
    l.self.seen l.self.items.items (left_in l.self.held (into_iter_items l.self.slots))
    × (l.self.held ≡ None) × Keeps l.initial.cx l.cx
    × (l.self.pass ≡ l.initial.self.pass) × (l.self.stamp ≡ l.initial.self.stamp) × (l.self.start ≡ l.initial.self.start)

abbrev pub decreases-loop-slot : goal.decreases-loop-slot
decreases-loop-slot g l = into_iter_len l.self.slots
