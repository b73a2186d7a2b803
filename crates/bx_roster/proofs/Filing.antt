-- A walk over the map of records adds an entry to the queue for each session.
use Rattle.std.proofs.Common.{◌≡◌, ℕ, zero, suc, ◌+◌, ◌≤◌, true, List, [], ◌∷◌, ◌++◌, length, Option, Some, None, is_some, refl, sym, ap, arith, true≢false}
use Rattle.std.proofs.lemmas.Grind.{common_steps}
use Rattle.std.specs.{List.list_any, Map.values_of}
use Rattle.bx_entry.specs.Registry.{Registered}
use Rattle.bx_roster.specs.Words.{IsKept, Record, session_of, with_one, sessions_in, sessions_to, AllFiled, files}
use Rattle.bx_roster.specs.declared.due_queue.Due.{Due}
use Rattle.bx_roster.proofs.{Dues.filed-append, Kept.under}

module _ (dues : List Due) (r : Registered) where
  abbrev Filed : Type 0
  Filed = list_any (files r) dues ≡ true

  among : (n : ℕ) (es : List (ℕ × Option Registered)) → under es n ≡ Some (Some r) → AllFiled dues (sessions_in (values_of es)) → Filed
  among n [] e all = absurd (true≢false (sym (ap is_some e)))
  among n (e ∷ es) is all = grind (arith, common_steps, among n es)

module _ (dues : List Due) (es : List (ℕ × Option Registered)) (all : AllFiled dues (sessions_in (values_of es))) where
  filed-one : (n : ℕ) (rs : List Registered) (o : Record) → under es n ≡ o → AllFiled dues rs → AllFiled dues (with_one rs (session_of o))
  filed-one n rs o h1 h2 = grind (arith, common_steps, filed-append, among)

  pub all-filed : (k : ℕ) → AllFiled dues (sessions_to (under es) k)
  unfolding sessions_to
  all-filed zero = tt
  all-filed (suc k) = filed-one (suc k) (sessions_to (under es) k) (under es (suc k)) refl (all-filed k)

-- ---- The number of sessions

few : (es : List (ℕ × Option Registered)) → length (sessions_in (values_of es)) ≤ length es
few [] = omega arith
few (e ∷ es) = grind (arith, common_steps, few es)

fewer : (n : ℕ) (es : List (ℕ × Option Registered)) → under es n ≡ Some None → length (sessions_in (values_of es)) + 1 ≤ length es
fewer n [] e = absurd (true≢false (sym (ap is_some e)))
fewer n (e ∷ es) is = grind (arith, common_steps, fewer n es, few es)

module _ (es : List (ℕ × Option Registered)) {limit count opened : ℕ} (k : IsKept (under es) (length es) limit count opened) where
  pub few-kept : length (sessions_in (values_of es)) ≤ length (sessions_to (under es) opened)
  few-kept = grind (arith, common_steps, few es, fewer (opened + 1) es, k.next, k.sized, k.counted)

pub sessions-push : (rs : List Registered) (r : Registered) (os : List (Option Registered)) → (rs ++ r ∷ []) ++ sessions_in os ≡ rs ++ sessions_in (Some r ∷ os)
sessions-push [] r os = refl
sessions-push (x ∷ rs) r os = ap (λ (xs : List Registered). x ∷ xs) (sessions-push rs r os)
