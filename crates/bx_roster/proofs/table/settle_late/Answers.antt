use Rattle.std.proofs.Common.{◌∷◌, ◌∙◌, sym, arith}
use Rattle.bx_roster.specs.Queues.{entries}
use Rattle.bx_roster.proofs.Dues.{entries-taken, filed-permuted, settled}
use Rattle.bx_roster.proofs.table.settle_late.Goals as goal
use Rattle.std.proofs.lemmas.Grind.{common_steps}

pub settle-requires-clause-filed : goal.settle-requires-clause-filed
settle-requires-clause-filed c =
    let q = c.loop-due.queue in
    let new = c.take_late.new.self in
    filed-permuted (entries q) (c.in-Some.due ∷ entries new) c.loop-due.roster.members.live (entries-taken c.in-Some.due q.late q.waiting new.late new.waiting c.in-Some.ensures.late c.in-Some.ensures.waiting)
    c.loop-due.invariant.1

pub returns-clause-filed : goal.returns-clause-filed
returns-clause-filed c = grind (arith, common_steps)

pub returns-clause-overdue_closed : goal.returns-clause-overdue_closed
returns-clause-overdue_closed c =
    let i = c.loop-due.invariant in
    let q = c.loop-due.queue in
    sym (settled c.args.moment q.late q.waiting c.loop-due.roster.members c.in_default.ensures.late.0 i.2 i.1 i.0.all) ∙ i.4
