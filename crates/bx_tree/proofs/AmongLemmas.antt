-- Membership of numbers in lists.
use Rattle.std.proofs.Common.{◌≡◌, ◌↔◌, ℕ, Bool, IsTrue, Result, Ok, Err, IfOk, OnOk, eqb, List, Contains, sym, ◌∙◌}
use Rattle.std.specs.{Bool.Decides, Bool.one_answer, List.dedup}
use Rattle.std.proofs.lemmas.{Bool.eqb-true, Cmp.nat_eq_equiv, Map.Views.Contains-from_any, Map.Views.list_any-from_Contains, List.Kept.Contains-dedup_nat, List.Kept.Contains-from_dedup}
use Rattle.bx_tree.specs.Walks.{is_among}

pub is_among-decides : (xs : List ℕ) (n : ℕ) → Decides (is_among xs n) (Contains xs n)
is_among-decides xs n = (Contains-from_any {eq = eqb} eqb-true n xs, list_any-from_Contains nat_eq_equiv n xs)

pub is_among-dedup : (xs : List ℕ) (n : ℕ) → is_among (dedup eqb xs) n ≡ is_among xs n
is_among-dedup xs n =
    let left = is_among-decides (dedup eqb xs) n in
    one_answer {P = Contains xs n} (is_among (dedup eqb xs) n) (is_among xs n)
    (λ e. Contains-from_dedup eqb xs n (left.0 e), λ h. left.1 (Contains-dedup_nat xs n h)) (is_among-decides xs n)

pub exact_if_met : {V E : Type 0} (r : Result V E) (numbers : V → List ℕ) (met fits : ℕ → Bool) (Whole : Type 0) → (Whole → (n : ℕ) → met n ≡ fits n) → IfOk r (λ v. (n : ℕ) → is_among (numbers v) n ≡ met n) → OnOk r Whole → IfOk r (λ v. (n : ℕ) → (Contains (numbers v) n ↔ IsTrue (fits n)))
exact_if_met (Ok v) numbers met fits Whole same told whole = λ n.
    let is = told n ∙ same whole n in
    let in_list = is_among-decides (numbers v) n in
    (λ h. sym is ∙ in_list.1 h, λ h. in_list.0 (is ∙ h))
exact_if_met (Err e) numbers met fits Whole same told whole = tt
