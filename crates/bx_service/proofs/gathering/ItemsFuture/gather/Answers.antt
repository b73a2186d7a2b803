use Rattle.std.proofs.Common.{rules, ◌≡◌, List, arith, subst}
use Rattle.std.proofs.lemmas.List.{nil_from_length}
use Rattle.std.specs.Vec.Iter.{into_iter_items, into_iter_len}
use Rattle.bx_entry.specs.declared.entry.Slot.{Slot}
use Rattle.bx_service.specs.Gatherings.{IsOnWay, left_in}
use Rattle.bx_service.proofs.GatheringLemmas.{missing_next, on_missing, on_way_next, on_way_then}
use Rattle.bx_service.proofs.gathering.ItemsFuture.gather.Goals as goal

pub returns-then-is_pending-2-clause-same : goal.returns-then-is_pending-2-clause-same
returns-then-is_pending-2-clause-same g c =
    let config = g.L.LogId.config in
    let old = c.args.self.now in
    let from = c.poll_held.new.self in
    let at = c.loop-slot.self in
    let end = c.take.new.self in
    on_way_then config old.seen old.items.items (left_in old.held (into_iter_items old.slots)) from.seen from.items.items (left_in from.held (into_iter_items from.slots))
    end.seen end.items.items (left_in end.held (into_iter_items end.slots)) c.in_ok-poll_held.ensures.same
    (on_way_next config at.held (into_iter_items at.slots) (into_iter_items c.next.new.self) c.in-Some.slot
    from.seen from.items.items (left_in from.held (into_iter_items from.slots)) at.seen at.items.items end.seen end.items.items (left_in end.held (into_iter_items end.slots))
    c.loop-slot.invariant.1 c.in-Some.ensures.items c.loop-slot.invariant.0 c.in_ok-take.ensures.same)

pub loop-slot-preserved : goal.loop-slot-preserved
loop-slot-preserved g c =
    let config = g.L.LogId.config in
    let from = c.poll_held.new.self in
    let at = c.loop-slot.self in
    let end = c.take.new.self in (
      on_way_next config at.held (into_iter_items at.slots) (into_iter_items c.next.new.self) c.in-Some.slot
          from.seen from.items.items (left_in from.held (into_iter_items from.slots)) at.seen at.items.items end.seen end.items.items (left_in end.held (into_iter_items end.slots))
          c.loop-slot.invariant.1 c.in-Some.ensures.items c.loop-slot.invariant.0 c.in_ok-take.ensures.same,
      search rules,
      search rules,
      search rules,
      search rules,
      search rules,
    )

pub returns-clause-same : goal.returns-clause-same
returns-clause-same g c =
    let config = g.L.LogId.config in
    let old = c.args.self.now in
    let from = c.poll_held.new.self in
    let at = c.loop-slot.self in
    let rest = into_iter_items c.next.new.self in
    on_way_then config old.seen old.items.items (left_in old.held (into_iter_items old.slots)) from.seen from.items.items (left_in from.held (into_iter_items from.slots))
    at.seen at.items.items (left_in at.held rest) c.in_ok-poll_held.ensures.same
    (subst (λ (left : List Slot). IsOnWay config from.seen from.items.items (left_in from.held (into_iter_items from.slots)) at.seen at.items.items (left_in at.held left))
    c.in_default.ensures.items c.loop-slot.invariant.0)

pub returns-clause-done : goal.returns-clause-done
returns-clause-done g c =
    let rest = c.next.new.self in
    let none : into_iter_len rest ≡ 0 = search rules in
    (c.loop-slot.invariant.1, nil_from_length (into_iter_items rest) (omega (arith, rest.rest.ok.0, none)))

pub returns-in_err-take-clause-missing : goal.returns-in_err-take-clause-missing
returns-in_err-take-clause-missing g c =
    let config = g.L.LogId.config in
    let old = c.args.self.now in
    let from = c.poll_held.new.self in
    let at = c.loop-slot.self in
    let way = on_way_then config old.seen old.items.items (left_in old.held (into_iter_items old.slots)) from.seen from.items.items (left_in from.held (into_iter_items from.slots))
    at.seen at.items.items (left_in at.held (into_iter_items at.slots)) c.in_ok-poll_held.ensures.same c.loop-slot.invariant.0 in
    let lacks = missing_next config.shards config at.held (into_iter_items at.slots) (into_iter_items c.next.new.self) c.in-Some.slot
    old.seen old.items.items (left_in old.held (into_iter_items old.slots)) at.seen at.items.items c.in_err-take.field-0.0
    c.loop-slot.invariant.1 c.in-Some.ensures.items way c.in_err-take.ensures.missing in
    on_missing config.shards (left_in old.held (into_iter_items old.slots)) c.in_err-take.field-0.0 c.from_residual-in_err-take.result (search rules) lacks
