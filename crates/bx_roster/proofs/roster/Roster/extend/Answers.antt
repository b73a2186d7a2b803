use Rattle.std.proofs.Common.{◌+◌, ℕ, List, length, Option, Some, option_map, is_some, refl, sym, ap, subst, ◌∙◌}
use Rattle.bx_entry.specs.Registry.{Registered}
use Rattle.bx_roster.specs.Kept.{IsKept, later, session_of, sessions_to}
use Rattle.bx_roster.proofs.Kept.{under, made, Changed, changed-by, extended-same, moved-kept, moved-live, moved-ready, kept-roster}
use Rattle.bx_roster.proofs.roster.Roster.extend.Goals as goal
use Rattle.bx_roster.proofs.roster.Roster.extend.Goals.{After-move_on}

pub returns-in_default-clause-extended : goal.returns-in_default-clause-extended
returns-in_default-clause-extended c =
    let i = c.self.inside in
    let same = ap (λ m. m.entries) c.get_mut.follows.holds-at-none in
    let none = extended-same c.self.invariant c.args.number c.args.due (ap session_of (sym c.in_default.ensures.value)) in
    rw (← c.self.view_is) (made i.limit refl (ap (λ (es : List (ℕ × Option Registered)). sessions_to (under es) i.opened) same ∙ none)
    (ap (λ (es : List (ℕ × Option Registered)). is_some (under es (i.opened + 1))) same))

moved : (c : After-move_on) →
    Changed (under c.self.inside.records.entries) (under (c.get_mut.follows.lender c.move_on.new.session).entries) c.args.number
    (Some (option_map (later c.args.due) c.in-Some.session.now))
moved c =
    let after = under (c.get_mut.follows.lender c.move_on.new.session).entries in
    let updates = (c.get_mut.follows.holds c.move_on.new.session).3 (ap is_some (sym c.in-Some.ensures.value)) in
    subst (λ (o : Option Registered). Changed (under c.self.inside.records.entries) after c.args.number (Some o)) c.move_on.ensures
    (changed-by _ after c.args.number (Some c.move_on.new.session) updates.0)

pub invariant_of-self-2 : goal.invariant_of-self-2
invariant_of-self-2 c =
    moved-kept c.self.invariant c.args.number c.args.due c.in-Some.session.now (sym c.in-Some.ensures.value)
    (moved (goal.at.invariant_of-self-2 c).After-move_on) (c.get_mut.follows.holds c.move_on.new.session).2

pub returns-clause-extended : goal.returns-clause-extended
returns-clause-extended c =
    let there = sym c.in-Some.ensures.value in
    let changed = moved (goal.at.returns-clause-extended c).After-move_on in
    rw (← c.self.view_is) (made c.self.inside.limit refl (moved-live c.self.invariant c.args.number c.args.due c.in-Some.session.now there changed)
    (ap is_some (moved-ready c.self.invariant c.args.number c.args.due c.in-Some.session.now there changed)))

pub returns-in_default-clause-roster : goal.returns-in_default-clause-roster
returns-in_default-clause-roster c =
    let i = c.self.inside in
    let same = ap (λ m. m.entries) c.get_mut.follows.holds-at-none in
    kept-roster (subst (λ (es : List (ℕ × Option Registered)). IsKept (under es) (length es) i.limit i.count i.opened) (sym same) c.self.invariant)

pub returns-clause-roster : goal.returns-clause-roster
returns-clause-roster c =
    let changed = moved (goal.at.returns-clause-roster c).After-move_on in
    kept-roster (moved-kept c.self.invariant c.args.number c.args.due c.in-Some.session.now (sym c.in-Some.ensures.value) changed
    (c.get_mut.follows.holds c.move_on.new.session).2)
