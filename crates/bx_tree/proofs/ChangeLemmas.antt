-- Changes to the patterns of one session, in its list and in the index.
use Rattle.std.proofs.Common.{arith, ◌≡◌, ◌≢◌, ◌≤◌, ◌<◌, ◌+◌, ℕ, Bool, true, false, not, ◌==◌, ◌&&◌, ◌||◌, List, [], ◌∷◌, ◌++◌, length, take, refl, sym, ap, ◌∙◌, append_assoc, length-append}
use Rattle.std.specs.List.{fold}
use Rattle.std.proofs.lemmas.{Bool.Decides.nat_tests, List.Folds.list_any-append, List.take_at, List.take-append-le, Grind.common_steps}
use Rattle.bx_names.specs.Words.{Glob, same_glob, same_glob-decides, in_force, with_pattern}
use Rattle.bx_tree.specs.declared.nodes.Nodes.{Nodes}
use Rattle.bx_tree.specs.Words.{AreWhole, IsIndexAt, KeepsOthers, stands_for}

-- ---- lists

pub joins : (held : List Glob) (p : Glob) → in_force held p ≡ false → held ++ p ∷ [] ≡ with_pattern held p
joins held p h = grind (arith, common_steps)

extends_once : (held : List Glob) (p : Glob) → (rest : List Glob) × (with_pattern held p ≡ held ++ rest)
extends_once held p = by (in_force held p) refl
  where
    by : (b : Bool) → in_force held p ≡ b → (rest : List Glob) × (with_pattern held p ≡ held ++ rest)
    by true h = ([], grind (arith, common_steps))
    by false h = (p ∷ [], sym (joins held p h))

extends : (held ps : List Glob) → (rest : List Glob) × (fold with_pattern held ps ≡ held ++ rest)
extends held [] = ([], grind (arith, common_steps))
extends held (p ∷ ps) =
    let one = extends_once held p in
    let all = extends (with_pattern held p) ps in
    (one.0 ++ all.0, all.1 ∙ ap (λ l. l ++ all.0) one.1 ∙ append_assoc held one.0 all.0)

pub first_stay : (held ps : List Glob) → take (length held) (fold with_pattern held ps) ≡ held
first_stay held ps =
    let all = extends held ps in
    ap (λ l. take (length held) l) all.1 ∙ take_at held all.0 (length held) refl

pub no_fewer : (held ps : List Glob) → length held ≤ length (fold with_pattern held ps)
no_fewer held ps =
    let all = extends held ps in
    let is = ap length all.1 ∙ length-append held all.0 in
    omega arith

pub shorter : (all left : List Glob) (p : Glob) (len : ℕ) → all ≡ left ++ p ∷ [] → len < length all → take len left ≡ take len all
shorter all left p len is more =
    let long : length all ≡ length left + 1 = ap length is ∙ length-append left (p ∷ []) in
    let within : len ≤ length left = omega arith in
    sym (ap (λ l. take len l) is ∙ take-append-le len left (p ∷ []) within)

-- ---- the index

same_number : (n : ℕ) → (n == n) ≡ true
same_number n = grind (arith, nat_tests)

one_less : (b g e : Bool) → e ≡ true → (g ≡ true → b ≡ false) → ((b || (g || false)) && not (g && e)) ≡ b
one_less b g e h k = grind arith

other_not : (b g e : Bool) → e ≡ false → (b && not (g && e)) ≡ b
other_not b g e h = grind arith

differs : (n m : ℕ) → n ≢ m → (n == m) ≡ false
differs n m h = grind (arith, nat_tests)

more : (ps : List Glob) (p q : Glob) → in_force (ps ++ p ∷ []) q ≡ (in_force ps q || (same_glob q p || false))
more ps p q = list_any-append (same_glob q) ps (p ∷ [])

module _ (old new : Nodes) (p : Glob) (number : ℕ)
    (took : (other : Glob) → AreWhole other.segments → (n : ℕ) → stands_for new other n ≡ (stands_for old other n && not (same_glob other p && (n == number)))) where
  pub index_less : (held : List Glob) → in_force held p ≡ false → IsIndexAt old number (held ++ p ∷ []) → IsIndexAt new number held
  index_less held absent index q whole =
      took q whole number ∙ ap (λ b. b && not (same_glob q p && (number == number))) (index q whole ∙ more held p q)
      ∙ one_less (in_force held q) (same_glob q p) (number == number) (same_number number)
      (λ same. ap (λ r. in_force held r) ((same_glob-decides q p).0 same) ∙ absent)

  pub others_less : KeepsOthers number old new
  others_less q whole n other = took q whole n ∙ other_not (stands_for old q n) (same_glob q p) (n == number) (differs n number other)
