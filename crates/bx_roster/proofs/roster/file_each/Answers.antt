use Rattle.std.proofs.Common.{rules, ◌≡◌, ◌++◌, ◌∷◌, [], List, length-append, Option, Some, ap, sym, ◌∙◌, arith}
use Rattle.bx_entry.specs.Registry.{Registered}
use Rattle.bx_roster.specs.Kept.{sessions_in}
use Rattle.bx_roster.specs.declared.due_queue.Due.{Due}
use Rattle.bx_roster.proofs.{Dues.filed-push, Dues.length-push, Filing.sessions-push}
use Rattle.bx_roster.proofs.roster.file_each.Goals as goal

pub loop-record-preserved-in-Some-record : goal.loop-record-preserved-in-Some-record
loop-record-preserved-in-Some-record c =
    let q = c.loop-record.queue in
    let new = c.file.new.self in
    let s = c.session.inside in
    let r : Registered = c.in-Some-record.session in
    let d : Due = record { moment = record { 0 = s.due }; number = s.number } in
    let i = c.loop-record.invariant in
    let number : s.number ≡ r.number = ap (λ (r : Registered). r.number) c.session.view_is in
    let due : s.due ≡ r.due = ap (λ (r : Registered). r.due) c.session.view_is in
    let step : c.loop-record.record-iterator ≡ Some r ∷ c.next.new.self = search rules in (
      i.0 ++ r ∷ [],
      (
        filed-push d q.late q.waiting new.late new.waiting i.0 r c.file.ensures.late c.file.ensures.waiting number due i.1.0,
        omega (arith, length-push d q.late q.waiting new.late new.waiting c.file.ensures.late c.file.ensures.waiting, i.1.1, length-append i.0 (r ∷ [])),
        sessions-push i.0 r c.next.new.self ∙ ap (λ (os : List (Option Registered)). i.0 ++ sessions_in os) (sym step) ∙ i.1.2,
        c.file.ensures.room ∙ i.1.3,
      ),
    )
