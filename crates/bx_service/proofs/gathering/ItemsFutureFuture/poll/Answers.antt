use Rattle.std.specs.Vec.Iter.{into_iter_items}
use Rattle.bx_service.specs.Gatherings.{left_in}
use Rattle.bx_service.proofs.GatheringLemmas.{gathers_earlier}
use Rattle.bx_service.proofs.gathering.ItemsFutureFuture.poll.Goals as goal

pub returns-in-Ok-Pending-clause-same : goal.returns-in-Ok-Pending-clause-same
returns-in-Ok-Pending-clause-same g c =
    let old = c.args.self.now in
    let new = c.gather.new.self in
    let fixed = c.in-Ok-Pending.ensures.fixed in
    λ output holds. gathers_earlier g.L.LogId.config old.stamp old.start old.pass old.seen old.items.items (left_in old.held (into_iter_items old.slots))
    new.seen new.items.items (left_in new.held (into_iter_items new.slots)) c.in-Ok-Pending.ensures.same new.stamp new.start new.pass output
    fixed.1 fixed.2 fixed.0 holds
