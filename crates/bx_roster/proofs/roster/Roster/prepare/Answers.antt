use Rattle.std.proofs.Common.{◌+◌, ℕ, cond, List, length, Option, Some, None, is_some, refl, sym, ap, subst, ◌∙◌}
use Rattle.bx_entry.specs.Registry.{Registered}
use Rattle.bx_roster.specs.Words.{with_live, IsKept}
use Rattle.bx_roster.proofs.Kept.{under, changed-by, prepared-kept, prepared-same, prepared-size}
use Rattle.bx_roster.proofs.roster.Roster.prepare.Goals as goal

pub invariant_of-self : goal.invariant_of-self
invariant_of-self c =
    let i = c.self.inside in
    subst (λ (es : List (ℕ × Option Registered)). IsKept (under es) (length es) i.limit i.count i.opened) (sym c.in_err-insert.ensures.err) c.self.invariant

pub invariant_of-self-2 : goal.invariant_of-self-2
invariant_of-self-2 c =
    let i = c.self.inside in
    let k = c.self.invariant in
    let was = c.in_ok-insert.ensures.old in
    let size = c.in_ok-insert.ensures.len ∙ ap (λ o. length i.records.entries + cond (is_some o) 0 1) was in
    prepared-kept k refl (changed-by _ _ (i.opened + 1) (Some None) c.in_ok-insert.ensures.updates.0) (prepared-size k size)

pub returns-clause-members : goal.returns-clause-members
returns-clause-members c =
    let i = c.self.inside in
    rw (← c.self.view_is) (ap (λ live. with_live (record { limit = i.limit; opened = i.opened; live = live }) live)
    (prepared-same c.self.invariant refl (changed-by _ _ (i.opened + 1) (Some None) c.in_ok-insert.ensures.updates.0)))
