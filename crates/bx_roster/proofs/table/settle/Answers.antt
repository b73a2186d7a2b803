use Rattle.std.proofs.Common.{◌≤◌, ◌∷◌, refl, sym, arith}
use Rattle.std.proofs.lemmas.{List.Elements.All-cons, List.Sorted.All-permutation, Grind.common_steps}
use Rattle.bx_roster.specs.Words.{entries}
use Rattle.bx_roster.specs.declared.due_queue.Due.{Due}
use Rattle.bx_roster.proofs.Dues.{filed-permuted, filed-moved, filed-gone, filed-absent, entries-filed, closed-overdue_closed, none-absent}
use Rattle.bx_roster.proofs.table.settle.Goals as goal

pub returns-in-Some-clause-filed : goal.returns-in-Some-clause-filed
returns-in-Some-clause-filed c =
    let q = c.args.queue.now in
    let new = c.file.new.self in
    let ms = c.args.roster.now.members in
    let d : Due = record { moment = record { 0 = c.in-Some.moved }; number = c.args.due.number } in
    filed-permuted (d ∷ entries q) (entries new) ms.live
    (entries-filed d q.late q.waiting new.late new.waiting c.file.ensures.late c.file.ensures.waiting)
    (filed-moved c.args.due d (entries q) c.in-Some.moved 0 ms.opened ms.live refl refl c.requires.roster.table c.requires.filed (sym c.in-Some.ensures))

pub returns-in-Some-clause-from : goal.returns-in-Some-clause-from
returns-in-Some-clause-from c =
    let d : Due = record { moment = record { 0 = c.in-Some.moved }; number = c.args.due.number } in
    λ from. All-permutation (λ (x : Due). c.args.moment ≤ x.moment.0) (d ∷ c.args.queue.now.waiting) c.file.new.self.waiting c.file.ensures.waiting
    (All-cons (λ (x : Due). c.args.moment ≤ x.moment.0) d c.args.queue.now.waiting c.if-moved-moment.true from)

pub returns-in-Some-2-clause-filed : goal.returns-in-Some-2-clause-filed
returns-in-Some-2-clause-filed c = rw c.close.ensures.closed (filed-gone c.args.due (entries c.args.queue.now) c.args.roster.now.members.live c.requires.filed)

pub returns-in-Some-2-clause-overdue_closed : goal.returns-in-Some-2-clause-overdue_closed
returns-in-Some-2-clause-overdue_closed c = grind (arith, common_steps, closed-overdue_closed)

pub returns-in-None-clause-filed : goal.returns-in-None-clause-filed
returns-in-None-clause-filed c = grind (arith, common_steps, filed-absent, none-absent)
