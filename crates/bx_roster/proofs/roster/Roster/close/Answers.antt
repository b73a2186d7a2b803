use Rattle.std.proofs.Common.{◌+◌, ◌-◌, ◌<◌, ◌≤◌, ℕ, List, length, Option, None, Some, is_some, refl, sym, ap, subst, ◌∙◌, arith}
use Rattle.bx_entry.specs.Registry.{Registered}
use Rattle.bx_roster.specs.Kept.{IsKept, session_of, sessions_to}
use Rattle.bx_roster.proofs.Kept.{under, made, changed-by, none-beyond, closed-same, occupied, closed-kept, closed-live, kept-roster, closed-ready}
use Rattle.bx_roster.proofs.roster.Roster.close.Goals as goal
use Rattle.bx_roster.proofs.roster.Roster.close.Goals.{In-Some}

pub returns-then-number-self-clause-closed : goal.returns-then-number-self-clause-closed
returns-then-number-self-clause-closed c =
    let beyond : c.self.inside.opened < c.args.number = omega arith in
    rw (← c.self.view_is) (made c.self.inside.limit refl (closed-same c.self.invariant c.args.number
    (none-beyond c.self.invariant c.args.number beyond)) refl)

pub invariant_of-self : goal.invariant_of-self
invariant_of-self c =
    let i = c.self.inside in
    subst (λ (es : List (ℕ × Option Registered)). IsKept (under es) (length es) i.limit i.count i.opened) (sym c.in_default.ensures.unchanged)
    c.self.invariant

pub returns-in_default-clause-closed : goal.returns-in_default-clause-closed
returns-in_default-clause-closed c =
    let i = c.self.inside in
    let same = c.in_default.ensures.unchanged in
    let none = closed-same c.self.invariant c.args.number (ap session_of (sym c.in_default.ensures.value)) in
    rw (← c.self.view_is) (made i.limit refl (ap (λ (es : List (ℕ × Option Registered)). sessions_to (under es) i.opened) same ∙ none)
    (ap (λ (es : List (ℕ × Option Registered)). is_some (under es (i.opened + 1))) same))

kept : (c : In-Some) →
    IsKept (under c.swap_remove.new.self.entries) (length c.swap_remove.new.self.entries) c.self.inside.limit (c.self.inside.count - 1)
    c.self.inside.opened
kept c =
    let le : c.args.number ≤ c.self.inside.opened = omega arith in
    let there = occupied c.self.invariant c.args.number (Some c.in-Some._closed) (sym c.in-Some.ensures.value) refl le in
    closed-kept c.self.invariant c.args.number (changed-by _ _ c.args.number None c.in-Some.ensures.updates.0) there.0 there.1 c.in-Some.ensures.len

pub invariant_of-self-2 : goal.invariant_of-self-2
invariant_of-self-2 c = kept (goal.at.invariant_of-self-2 c).In-Some

pub returns-clause-closed : goal.returns-clause-closed
returns-clause-closed c =
    let n = c.args.number in
    let le : n ≤ c.self.inside.opened = omega arith in
    let changed = changed-by _ _ n None c.in-Some.ensures.updates.0 in
    rw (← c.self.view_is) (made c.self.inside.limit refl (closed-live c.self.invariant n changed)
    (ap is_some (closed-ready c.self.invariant n changed le)))

pub returns-then-number-self-clause-roster : goal.returns-then-number-self-clause-roster
returns-then-number-self-clause-roster c = rw (← c.self.view_is) (kept-roster c.self.invariant)

pub returns-in_default-clause-roster : goal.returns-in_default-clause-roster
returns-in_default-clause-roster c =
    let i = c.self.inside in
    kept-roster (subst (λ (es : List (ℕ × Option Registered)). IsKept (under es) (length es) i.limit i.count i.opened)
    (sym c.in_default.ensures.unchanged) c.self.invariant)

pub returns-clause-roster : goal.returns-clause-roster
returns-clause-roster c = kept-roster (kept (goal.at.returns-clause-roster c).In-Some)
