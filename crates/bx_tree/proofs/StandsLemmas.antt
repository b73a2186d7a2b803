-- How a change at one path changes which sessions are stored at each path.
use Rattle.std.proofs.Common.{◌≡◌, ℕ, eqb, Bool, false, not, cond, ◌==◌, ◌&&◌, ◌||◌, Option, Some, None, is_some, Result, Ok, Err, OnErr, List, length, refl, ap, ◌∙◌, arith}
use Rattle.std.specs.{Map.lookup, Map.update, Option.option_map_or, Ordering.is_eq, Ordering.nat_cmp, Str.bytes_eq}
use Rattle.std.specs.BTreeMap.{BTreeMap, UpdatesBy, is_at}
use Rattle.std.proofs.lemmas.{Bool.Decides.nat_tests, Slice.Eq.bytes_eq-Decides, Grind.common_steps}
use Rattle.bx_tree.specs.Lists.{has_number}

-- ---- numbers with their stamps

pub is_eq-nat_cmp : (a b : ℕ) → is_eq (nat_cmp a b) ≡ eqb b a
is_eq-nat_cmp a b = grind (arith, nat_tests)

cond_or : (b : Bool) (stamp : ℕ) (o : Option ℕ) → is_some (cond b (Some stamp) o) ≡ (is_some o || b)
cond_or b stamp o = grind (arith, common_steps)

cond_not : (b : Bool) (o : Option ℕ) → is_some (cond b None o) ≡ (is_some o && not b)
cond_not b o = grind (arith, common_steps)

pub added : (s t : BTreeMap ℕ ℕ) (number stamp : ℕ) → UpdatesBy nat_cmp (nat_cmp number) s t (Some stamp) → (n : ℕ) → has_number t n ≡ (has_number s n || (n == number))
added s t number stamp h n = ap is_some (h.0 n) ∙ cond_or (is_eq (nat_cmp number n)) stamp (lookup (is_at (nat_cmp n)) s.entries) ∙ ap (λ b. has_number s n || b) (is_eq-nat_cmp number n)

pub removed : (s t : BTreeMap ℕ ℕ) (number : ℕ) → UpdatesBy nat_cmp (nat_cmp number) s t None → (n : ℕ) → has_number t n ≡ (has_number s n && not (n == number))
removed s t number h n = ap is_some (h.0 n) ∙ cond_not (is_eq (nat_cmp number n)) (lookup (is_at (nat_cmp n)) s.entries) ∙ ap (λ b. has_number s n && not b) (is_eq-nat_cmp number n)

nothing_in : (es : List (ℕ × ℕ)) (n : ℕ) → length es ≡ 0 → is_some (lookup (is_at (nat_cmp n)) es) ≡ false
nothing_in es n h1 = grind (arith, common_steps)

pub has_none : (s : BTreeMap ℕ ℕ) (n : ℕ) → length s.entries ≡ 0 → has_number s n ≡ false
has_none s n h = nothing_in s.entries n h

-- ---- the lists by their paths

abbrev pub has : Option (BTreeMap ℕ ℕ) → ℕ → Bool
has list n = option_map_or (λ numbers. has_number numbers n) list false

pub at_path : (path : List ℕ) (before after : List ℕ → Option (BTreeMap ℕ ℕ)) (w : Option (BTreeMap ℕ ℕ)) → ((other : List ℕ) → after other ≡ update bytes_eq before path w other) → after path ≡ w
at_path path before after w h = rw ((bytes_eq-Decides path path).1 refl) at (h path)

pub elsewhere : (path : List ℕ) (before after : List ℕ → Option (BTreeMap ℕ ℕ)) (w : Option (BTreeMap ℕ ℕ)) → ((other : List ℕ) → after other ≡ update bytes_eq before path w other) → (other : List ℕ) → bytes_eq path other ≡ false → after other ≡ before other
elsewhere path before after w h other e = rw e at (h other)

pub changed_at : (step : Bool → Bool → Bool) → ((b : Bool) → step b false ≡ b) → (path : List ℕ) (number : ℕ) (before after : List ℕ → Option (BTreeMap ℕ ℕ)) → ((other : List ℕ) → bytes_eq path other ≡ false → after other ≡ before other) → ((n : ℕ) → has (after path) n ≡ step (has (before path) n) (n == number)) → (other : List ℕ) (n : ℕ) → has (after other) n ≡ step (has (before other) n) (bytes_eq path other && (n == number))
changed_at step idle path number before after others own other n = grind (arith, common_steps, bytes_eq-Decides)

pub or_idle : (b : Bool) → (b || false) ≡ b
or_idle b = grind arith

pub not_idle : (b : Bool) → (b && not false) ≡ b
not_idle b = grind arith

pub gone_at : (path : List ℕ) (number : ℕ) (before after : List ℕ → Option (BTreeMap ℕ ℕ)) (numbers left : BTreeMap ℕ ℕ) → Some numbers ≡ before path → UpdatesBy nat_cmp (nat_cmp number) numbers left None → ((other : List ℕ) → bytes_eq path other ≡ false → after other ≡ before other) → ((n : ℕ) → has (after path) n ≡ has_number left n) → (other : List ℕ) (n : ℕ) → has (after other) n ≡ (has (before other) n && not (bytes_eq path other && (n == number)))
gone_at path number before after numbers left was updates others own =
    changed_at (λ a b. a && not b) not_idle path number before after others (λ n. own n ∙ removed numbers left number updates n ∙ ap (λ o. has o n && not (n == number)) was)

pub unchanged_at : (path : List ℕ) (before after : List ℕ → Option (BTreeMap ℕ ℕ)) → ((other : List ℕ) → bytes_eq path other ≡ false → after other ≡ before other) → ((n : ℕ) → has (after path) n ≡ has (before path) n) → (other : List ℕ) (n : ℕ) → has (after other) n ≡ has (before other) n
unchanged_at path before after others own other n = grind (arith, common_steps, bytes_eq-Decides)

pub on_err : {T E : Type 0} {P : Type 0} (r : Result T E) → P → OnErr r P
on_err (Ok x) p = tt
on_err (Err e) p = p
