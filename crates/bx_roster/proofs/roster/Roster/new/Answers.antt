use Rattle.std.proofs.Common.{ℕ, List, length, Option, refl, sym, ap, subst, arith, is_some}
use Rattle.bx_entry.specs.Registry.{Registered}
use Rattle.bx_roster.specs.Kept.{IsKept}
use Rattle.bx_roster.proofs.Kept.{under, empty-kept, empty-live, made}
use Rattle.bx_roster.proofs.roster.Roster.new.Goals as goal

pub invariant_of-result : goal.invariant_of-result
invariant_of-result c = subst (λ (es : List (ℕ × Option Registered)). IsKept (under es) (length es) c.args.limit 0 0) (sym c.new.ensures.empty) (empty-kept c.args.limit (omega arith))

pub returns : goal.returns
returns c = made c.args.limit refl (empty-live _) (ap (λ (es : List (ℕ × Option Registered)). is_some (under es 1)) c.new.ensures.empty)
