-- A list of shards after one of them changes.
use Rattle.std.proofs.Common.{◌≡◌, ◌≢◌, ℕ, ◌<◌, ◌≤◌, Bool, true, false, cond, Option, Some, option_map, Result, Ok, Err, OnOk, Vec, Global, List, length, get_or, slice_get, slice_set, nat_eq, nat_lt, refl, sym, ap, ◌∙◌, arith, eq-eqb, ltb-true, ltb-false}
use Rattle.std.proofs.lemmas.{List.length-set, List.get_or-set_same, List.get_or-set_other, Option.slice_get-get_or, Option.slice_get_read, Option.slice_get_past}
use Rattle.bx_history.proofs.Tests.{either}
use Rattle.bx_connects.specs.Connects.{connect_at}
use Rattle.bx_shard.specs.declared.sessions.Sessions.{Sessions}
use Rattle.bx_shard.specs.Sessions.{kept_in, patterns_in}
use Rattle.bx_reshard.specs.Heirs.{SameConnects, SameSessions, connect_there, kept_there, patterns_there}

pub row_here : (row : Vec Sessions Global) (slot : ℕ) (s : Sessions) → slot < length row.items → s ≡ get_or row.items slot s → slice_get row.items slot ≡ Some s
row_here row slot s within is = slice_get_read row.items (length row.items) slot s refl within is

pub set_here : {X : Type 0} (xs : List X) (i : ℕ) (y : X) → i < length xs → slice_get (slice_set xs i y) i ≡ Some y
set_here xs i y h = slice_get-get_or (slice_set xs i y) i y (omega (arith, h, length-set xs i y)) ∙ ap Some (get_or-set_same xs i y y h)

pub set_beside : {X : Type 0} (xs : List X) (i k : ℕ) (y : X) → nat_eq i k ≡ false → slice_get (slice_set xs i y) k ≡ slice_get xs k
set_beside xs i k y e =
    let apart : k ≢ i = λ s. absurd (let no : false ≡ true = sym e ∙ eq-eqb i k (sym s) in cc) in
    either (nat_lt k (length xs)) (slice_get (slice_set xs i y) k ≡ slice_get xs k)
    (λ l.
    let within : k < length xs = ltb-true k (length xs) l in
    slice_get-get_or (slice_set xs i y) k y (omega (arith, within, length-set xs i y)) ∙ ap Some (get_or-set_other xs i k y y apart) ∙ sym (slice_get-get_or xs k y within))
    (λ l.
    let past : length xs ≤ k = ltb-false k (length xs) l in
    slice_get_past (slice_set xs i y) k (omega (arith, past, length-set xs i y)) ∙ sym (slice_get_past xs k past))

pub at_each : (P : Option Sessions → Option Sessions → Bool → Type 0) (xs : List Sessions) (i : ℕ) (old new : Sessions) → i < length xs → slice_get xs i ≡ Some old →
    P (Some old) (Some new) true → ((o : Option Sessions) → P o o false) → (k : ℕ) → P (slice_get xs k) (slice_get (slice_set xs i new) k) (nat_eq i k)
at_each P xs i old new within here own others k = grind (arith, here, set_here xs i new within, set_beside xs i k new, own, others (slice_get xs k))

pub same_sessions : (xs : List Sessions) (i : ℕ) (old new : Sessions) → i < length xs → slice_get xs i ≡ Some old →
    new.config ≡ old.config → ((n : ℕ) → kept_in new n ≡ kept_in old n) → ((n : ℕ) → patterns_in new n ≡ patterns_in old n) → SameSessions xs (slice_set xs i new)
same_sessions xs i old new within here config sessions patterns = record {
  many = length-set xs i new;
  configs = at_each (λ o u b. option_map (λ (s : Sessions). s.config) u ≡ option_map (λ (s : Sessions). s.config) o) xs i old new within here (ap Some config) (λ o. refl);
  sessions = λ k n. at_each (λ o u b. kept_there u n ≡ kept_there o n) xs i old new within here (sessions n) (λ o. refl) k;
  patterns = λ k n. at_each (λ o u b. patterns_there u n ≡ patterns_there o n) xs i old new within here (patterns n) (λ o. refl) k;
}

pub same_connects : (xs : List Sessions) (i : ℕ) (old new : Sessions) → i < length xs → slice_get xs i ≡ Some old →
    new.config ≡ old.config → ((p : ℕ) → connect_at new.connects p ≡ connect_at old.connects p) → SameConnects xs (slice_set xs i new)
same_connects xs i old new within here config connects = record {
  many = length-set xs i new;
  configs = at_each (λ o u b. option_map (λ (s : Sessions). s.config) u ≡ option_map (λ (s : Sessions). s.config) o) xs i old new within here (ap Some config) (λ o. refl);
  connects = λ k p. at_each (λ o u b. connect_there u p ≡ connect_there o p) xs i old new within here (connects p) (λ o. refl) k;
}

pub on_ok : {T E : Type 0} {P Q : Type 0} (r : Result T E) → (P → Q) → OnOk r P → OnOk r Q
on_ok (Ok x) f p = f p
on_ok (Err e) f p = tt

pub at_own : {X : Type 0} (F : X → X) (g : ℕ → X) (m n : ℕ) → cond (nat_eq m n) (F (g m)) (g n) ≡ cond (nat_eq m n) (F (g n)) (g n)
at_own F g m n = grind arith
