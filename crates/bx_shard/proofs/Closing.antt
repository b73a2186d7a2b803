-- Closing sessions drops the connects that they hold, and no others.
use Rattle.std.proofs.Common.{arith, ◌≡◌, ℕ, nat_eq, ◌==◌, ◌||◌, ◌+◌, ◌<◌, Bool, cond, Option, Some, None, List, [], length, take, get_or}
use Rattle.std.specs.List.{list_any}
use Rattle.std.proofs.lemmas.List.Folds.{list_any_more}
use Rattle.bx_entry.specs.Keeping.{Kept}
use Rattle.bx_connects.specs.declared.connects.ConnectState.{ConnectState}
use Rattle.bx_connects.specs.declared.connects.ConnectState.TheVariants.{Held, Filed}
use Rattle.bx_shard.specs.Words.{forgetting, held_in, dropped_by}
use Rattle.bx_shard.proofs.Ties.{Agree}

abbrev pub parted_from : ℕ → Option ConnectState → Option ConnectState
parted_from m None = None
parted_from m (Some (Held session deadline waker)) = cond (nat_eq m session) None (Some (Held session deadline waker))
parted_from m (Some (Filed session place answer)) = Some (Filed session place answer)

pub closing_parts : (C : ℕ → Option ConnectState) (S : ℕ → Option Kept) (m : ℕ) → Agree C S
    → (p : ℕ) → forgetting (held_in (S m)) C p ≡ parted_from m (C p)
closing_parts C S m agree p = grind (arith, agree p m)

pub dropped_by_none : (o : Option ConnectState) → o ≡ dropped_by [] o
dropped_by_none o = grind arith

either : {X : Type 0} (a b : Bool) (x : Option X) → cond b None (cond a None x) ≡ cond (a || b) None x
either a b x = grind arith

module _ (numbers : List ℕ) (i : ℕ) (more : i < length numbers) where
  one_more : (n : ℕ) → list_any (λ m. m == n) (take (i + 1) numbers) ≡ (list_any (λ m. m == n) (take i numbers) || nat_eq (get_or numbers i 0) n)
  one_more n = list_any_more (λ m. m == n) numbers i 0 more

  pub dropped_by_more : (o : Option ConnectState) → parted_from (get_or numbers i 0) (dropped_by (take i numbers) o) ≡ dropped_by (take (i + 1) numbers) o
  dropped_by_more o = grind (arith, one_more)

  pub gone_more : (n : ℕ) (o : Option Kept) → cond (nat_eq (get_or numbers i 0) n) None (cond (list_any (λ m. m == n) (take i numbers)) None o) ≡ cond (list_any (λ m. m == n) (take (i + 1) numbers)) None o
  gone_more n o = grind (arith, one_more n)
