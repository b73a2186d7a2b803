use Rattle.std.proofs.Common.{◌≡◌, ◌+◌, ◌<◌, length, Some, is_some, sym, ap, subst, ◌∙◌, arith}
use Rattle.bx_entry.specs.Registry.{Registered}
use Rattle.bx_roster.specs.Words.{Prepared, IsKept, sessions_to}
use Rattle.bx_roster.proofs.Kept.{under, made, Changed, changed-by, opened-kept, opened-live, opened-next, kept-roster}
use Rattle.bx_roster.proofs.roster.Roster.open.Goals as goal
use Rattle.bx_roster.proofs.roster.Roster.open.Goals.{In-Some}

own : (c : In-Some) → c.args.session.number ≡ c.session.inside.number
own c = ap (λ (r : Registered). r.number) (sym c.session.view_is)

next : (c : In-Some) → c.session.inside.number ≡ c.self.inside.opened + 1
next c = sym (own c) ∙ c.requires.next.number ∙ ap (λ (v : Prepared). v.members.opened + 1) (sym c.self.view_is)

filled : (c : In-Some) →
    Changed (under c.self.inside.records.entries) (under (c.get_mut.follows.lender (Some c.args.session)).entries) c.session.inside.number
    (Some (Some c.args.session))
filled c = changed-by _ _ c.session.inside.number (Some (Some c.args.session))
    ((c.get_mut.follows.holds (Some c.args.session)).3 (ap is_some (sym c.in-Some.ensures.value))).0

kept : (c : In-Some)
    → IsKept (under (c.get_mut.follows.lender (Some c.args.session)).entries) (length (c.get_mut.follows.lender (Some c.args.session)).entries)
    c.self.inside.limit (c.self.inside.count + 1) c.session.inside.number
kept c =
    let i = c.self.inside in
    let room : length (sessions_to (under i.records.entries) i.opened) < i.limit = subst
    (λ (v : Prepared). length v.members.live < v.members.limit) (sym c.self.view_is) c.requires.next.room in
    let ready = ap (λ (v : Prepared). v.ready) c.self.view_is ∙ c.requires.ready in
    opened-kept c.self.invariant c.args.session (own c) (next c) (filled c) (c.get_mut.follows.holds (Some c.args.session)).2 ready
    (omega (arith, room, c.self.invariant.counted)) c.requires.next.named c.requires.next.live

pub invariant_of-self-2 : goal.invariant_of-self-2
invariant_of-self-2 c = kept (goal.at.invariant_of-self-2 c).In-Some

pub returns-clause-opened : goal.returns-clause-opened
returns-clause-opened c =
    let at = (goal.at.returns-clause-opened c).In-Some in
    rw (← c.self.view_is) (made c.self.inside.limit (sym (own at)) (opened-live c.self.invariant c.args.session (own at) (next at) (filled at))
    (ap is_some (opened-next c.self.invariant c.args.session (own at) (next at) (filled at))))

pub returns-clause-roster : goal.returns-clause-roster
returns-clause-roster c = kept-roster (kept (goal.at.returns-clause-roster c).In-Some)
