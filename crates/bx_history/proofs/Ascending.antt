-- Ascending lists with the same numbers are equal.
use Rattle.std.proofs.Common.{◌≡◌, ◌≢◌, ℕ, ◌<◌, ◌≤◌, Bool, true, false, List, [], ◌∷◌, refl, sym, ap, subst, ◌∙◌, cond, arith, inl, inr, eqb, eq-eqb, eqb-true, ne_eqb}
use Rattle.std.specs.Prelude.{◌&&◌, ◌||◌, ◌==◌, ◌⊎◌}
use Rattle.std.specs.{List.AllByRecursion, List.Contains, List.dedup, List.filter, List.Sorted.IsStrictlySortedBy, Ordering.nat_cmp}
use Rattle.std.specs.declared.cmp.Ordering.TheVariants.{Less}
use Rattle.std.proofs.Math.Bool.{and-false}
use Rattle.std.proofs.lemmas.{Bool.cases_lt, Bool.eqb-false, List.Folds.Any-from_list_any, List.Folds.list_any-from_Any, List.Kept.Contains-dedup_nat, List.Kept.Contains-from_dedup}
use Rattle.bx_history.specs.Members.{has}
use Rattle.bx_history.proofs.Tests.{same-tests, less-from-cmp}

pub has-head : (n : ℕ) (ns : List ℕ) → has n (n ∷ ns) ≡ true
has-head n ns = ap (λ (b : Bool). b || has n ns) (eq-eqb n n refl)

pub contains-has : (n : ℕ) (ns : List ℕ) → Contains ns n → has n ns ≡ true
contains-has n ns c = list_any-from_Any (λ (m : ℕ). m == n) ns (c.0, n, c.1, c.2, eq-eqb n n refl)

pub has-contains : (n : ℕ) (ns : List ℕ) → has n ns ≡ true → Contains ns n
has-contains n ns e =
    let found = Any-from_list_any (λ (m : ℕ). m == n) ns e in
    let same : found.1 ≡ n = eqb-true found.1 n found.4 in
    subst (Contains ns) same (found.0, found.2, found.3)

pub dedup-has : (n : ℕ) (ns : List ℕ) → has n (dedup eqb ns) ≡ has n ns
dedup-has n ns = same-tests (has n (dedup eqb ns)) (has n ns)
    (λ e. contains-has n ns (Contains-from_dedup eqb ns n (has-contains n (dedup eqb ns) e)))
    (λ e. contains-has n (dedup eqb ns) (Contains-dedup_nat ns n (has-contains n ns e)))

-- ---- filters

filter-has-by : (q : ℕ → Bool) (n x : ℕ) (ns : List ℕ) → has n (filter q ns) ≡ (has n ns && q n) → (b : Bool) → q x ≡ b → (c : Bool) → (x == n) ≡ c →
    has n (cond b (x ∷ filter q ns) (filter q ns)) ≡ ((c || has n ns) && q n)
filter-has-by q n x ns ih true e true f =
    let same : x ≡ n = eqb-true x n f in
    ap (λ (b : Bool). b || has n (filter q ns)) f ∙ sym (ap q (sym same) ∙ e)
filter-has-by q n x ns ih true e false f = ap (λ (b : Bool). b || has n (filter q ns)) f ∙ ih
filter-has-by q n x ns ih false e true f =
    let same : x ≡ n = eqb-true x n f in
    let no : q n ≡ false = ap q (sym same) ∙ e in
    ih ∙ ap (λ (b : Bool). has n ns && b) no ∙ and-false (has n ns) ∙ sym no
filter-has-by q n x ns ih false e false f = ih

pub filter-has : (q : ℕ → Bool) (n : ℕ) (ns : List ℕ) → has n (filter q ns) ≡ (has n ns && q n)
filter-has q n [] = refl
filter-has q n (x ∷ ns) = filter-has-by q n x ns (filter-has q n ns) (q x) refl (x == n) refl

-- ---- ascending lists

abbrev pub AllAbove : ℕ → List ℕ → Type 0
AllAbove x [] = Unit {0}
AllAbove x (y ∷ ys) = (x < y) × AllAbove x ys

abbrev pub Ascends : List ℕ → Type 0
Ascends [] = Unit {0}
Ascends (x ∷ xs) = AllAbove x xs × Ascends xs

pub above-lower : (low x : ℕ) (ys : List ℕ) → low ≤ x → AllAbove x ys → AllAbove low ys
above-lower low x [] le above = tt
above-lower low x (y ∷ ys) le above = (omega (arith, above.0), above-lower low x ys le above.1)

above-has : (x : ℕ) (ys : List ℕ) → AllAbove x ys → has x ys ≡ false
above-has x [] above = refl
above-has x (y ∷ ys) above = let ne : y ≢ x = omega (arith, above.0) in ap (λ (b : Bool). b || has x ys) (ne_eqb y x ne) ∙ above-has x ys above.1

front-has : (x y : ℕ) (xs ys : List ℕ) → x < y → AllAbove y ys → has x (x ∷ xs) ≡ has x (y ∷ ys) → ⊥
front-has x y xs ys less above same =
    let no : has x (y ∷ ys) ≡ false = above-has x (y ∷ ys) (less, above-lower x y ys (omega arith) above) in
    let yes : true ≡ false = sym (has-head x xs) ∙ same ∙ no in
    cc

rest-by : (n x y : ℕ) (xs ys : List ℕ) → x ≡ y → AllAbove x xs → AllAbove y ys → (b : Bool) → (x == n) ≡ b → (b || has n xs) ≡ has n (y ∷ ys) → has n xs ≡ has n ys
rest-by n x y xs ys at above above' true e same =
    let here : x ≡ n = eqb-true x n e in
    ap (λ (m : ℕ). has m xs) (sym here) ∙ above-has x xs above ∙ sym (ap (λ (m : ℕ). has m ys) (sym here ∙ at) ∙ above-has y ys above')
rest-by n x y xs ys at above above' false e same =
    let ne : x ≢ n = eqb-false x n e in
    let other : y ≢ n = omega arith in
    same ∙ ap (λ (b : Bool). b || has n ys) (ne_eqb y n other)

mutual-by : (x y : ℕ) (xs ys : List ℕ) → AllAbove x xs → AllAbove y ys → ((n : ℕ) → has n (x ∷ xs) ≡ has n (y ∷ ys)) → (x < y) ⊎ (y ≤ x) → (y < x) ⊎ (x ≤ y) → x ≡ y
mutual-by x y xs ys above above' same (inl less) other = absurd (front-has x y xs ys less above' (same x))
mutual-by x y xs ys above above' same (inr le) (inl less) = absurd (front-has y x ys xs less above (sym (same y)))
mutual-by x y xs ys above above' same (inr le) (inr le') = omega arith

pub same-ascends : (xs ys : List ℕ) → Ascends xs → Ascends ys → ((n : ℕ) → has n xs ≡ has n ys) → xs ≡ ys
same-ascends [] [] a b same = refl
same-ascends [] (y ∷ ys) a b same = let no : false ≡ true = same y ∙ has-head y ys in cc
same-ascends (x ∷ xs) [] a b same = let no : true ≡ false = sym (has-head x xs) ∙ same x in cc
same-ascends (x ∷ xs) (y ∷ ys) a b same =
    let at : x ≡ y = mutual-by x y xs ys a.0 b.0 same (cases_lt x y) (cases_lt y x) in
    let rest : xs ≡ ys = same-ascends xs ys a.1 b.1 (λ n. rest-by n x y xs ys at a.0 b.0 (x == n) refl (same n)) in
    ap (λ (n : ℕ). n ∷ xs) at ∙ ap (λ (ns : List ℕ). y ∷ ns) rest

above-sorted : (x : ℕ) (ys : List ℕ) → AllByRecursion (λ (y : ℕ). nat_cmp x y ≡ Less) ys → AllAbove x ys
above-sorted x [] all = tt
above-sorted x (y ∷ ys) all = (less-from-cmp x y all.0, above-sorted x ys all.1)

pub ascends-sorted : (xs : List ℕ) → IsStrictlySortedBy nat_cmp xs → Ascends xs
unfolding IsStrictlySortedBy
ascends-sorted [] s = tt
ascends-sorted (x ∷ xs) s = (above-sorted x xs s.0, ascends-sorted xs s.1)
