-- Some shard is at the place of the first kept entry.
use Rattle.std.proofs.Common.{◌≡◌, ℕ, zero, suc, ◌<◌, ◌≤◌, ◌==◌, Bool, true, false, Some, List, [], ◌∷◌, map, max, min, option_map, slice_get, slice_set, get_or, refl, ap, ◌∙◌, subst, arith, ⊎_elim}
use Rattle.std.specs.Prelude.{replicate}
use Rattle.std.specs.List.{list_any}
use Rattle.std.proofs.lemmas.{Bool.cases_lt, List.map-set, Option.slice_get-map}
use Rattle.bx_history.proofs.Elements.{mapped}
use Rattle.bx_shard.specs.declared.shard.Shard.{Shard}
use Rattle.bx_world.specs.Refining.{StandFrom, StandWithin, some_stands_at}
use Rattle.bx_world.proofs.Rows.{number_there}

-- ---- numbers

abbrev among : ℕ → List ℕ → Bool
among p ns = list_any (λ n. n == p) ns

there_among : (ns : List ℕ) (k p : ℕ) → slice_get ns k ≡ Some p → among p ns ≡ true
there_among [] k p e = cc
there_among (n ∷ ns) zero p e = grind arith
there_among (n ∷ ns) (suc k) p e = grind (arith, there_among ns k p e)

among_set : (ns : List ℕ) (i v p : ℕ) → among p ns ≡ true → (get_or ns i 0 ≡ p → ⊥) → among p (slice_set ns i v) ≡ true
among_set [] i v p h apart = cc
among_set (n ∷ ns) zero v p h apart = grind arith
among_set (n ∷ ns) (suc i) v p h apart = grind (arith, among_set ns i v p)

among_each : (P : ℕ → Type 0) (ns : List ℕ) (p : ℕ) → ((k n : ℕ) → slice_get ns k ≡ Some n → P n) → among p ns ≡ true → P p
among_each P [] p each h = absurd (let no : false ≡ true = h in cc)
among_each P (n ∷ ns) p each h =
    let here : P n = each 0 n refl in
    let later : among p ns ≡ true → P p = among_each P ns p (λ k m g. each (suc k) m g) in
    grind (arith, here, later)

some_there : (n p : ℕ) → 1 ≤ n → among p (replicate n p) ≡ true
some_there zero p h = absurd (omega (arith, h))
some_there (suc n) p h = grind arith

-- ---- shards

pub all_stand : {P : Type 0} (xs : List (Shard P)) (n p : ℕ) → map (λ (s : Shard P). s.place) xs ≡ replicate n p → 1 ≤ n → some_stands_at p xs ≡ true
all_stand xs n p e h = ap (among p) e ∙ some_there n p h

pub same_slowest : {P : Type 0} (xs ys : List (Shard P)) (first : ℕ) → map (λ (s : Shard P). s.place) ys ≡ map (λ (s : Shard P). s.place) xs → some_stands_at first xs ≡ true → some_stands_at first ys ≡ true
same_slowest xs ys first e h = ap (among first) e ∙ h

pub stands_there : {P : Type 0} (xs : List (Shard P)) (k : ℕ) (s : Shard P) → slice_get xs k ≡ Some s → some_stands_at s.place xs ≡ true
stands_there {P} xs k s e = there_among (map (λ (x : Shard P). x.place) xs) k s.place (slice_get-map (λ (x : Shard P). x.place) xs k ∙ ap (option_map (λ (x : Shard P). x.place)) e)

pub still_slowest : {P : Type 0} (xs : List (Shard P)) (i : ℕ) (old new : Shard P) (first : ℕ) → slice_get xs i ≡ Some old → some_stands_at first xs ≡ true → first < old.place → some_stands_at first (slice_set xs i new) ≡ true
still_slowest {P} xs i old new first there h ahead =
    let places : List ℕ = map (λ (s : Shard P). s.place) xs in
    let here : get_or places i 0 ≡ old.place = number_there (λ (s : Shard P). s.place) xs i old there in
    ap (among first) (map-set (λ (s : Shard P). s.place) xs i new) ∙ among_set places i new.place first h (λ e. absurd (omega (arith, e, here, ahead)))

each_place : {P : Type 0} (Q : ℕ → Type 0) (xs : List (Shard P)) → ((k : ℕ) (s : Shard P) → slice_get xs k ≡ Some s → Q s.place) → (k n : ℕ) → slice_get (map (λ (s : Shard P). s.place) xs) k ≡ Some n → Q n
each_place {P} Q xs each k n e = let m = mapped (λ (s : Shard P). s.place) xs k n e in subst Q m.is (each k m.one m.there)

pub places_from : {P : Type 0} (xs : List (Shard P)) (first : ℕ) → StandFrom first xs → (k n : ℕ) → slice_get (map (λ (s : Shard P). s.place) xs) k ≡ Some n → first ≤ n
places_from xs first from = each_place (λ n. first ≤ n) xs from

pub not_below : {P : Type 0} (xs : List (Shard P)) (first p : ℕ) → StandFrom first xs → some_stands_at p xs ≡ true → first ≤ p
not_below {P} xs first p from h = among_each (λ n. first ≤ n) (map (λ (s : Shard P). s.place) xs) p (places_from xs first from) h

pub not_above : {P : Type 0} (xs : List (Shard P)) (end p : ℕ) → StandWithin end xs → some_stands_at p xs ≡ true → p ≤ end
not_above {P} xs end p within h = among_each (λ n. n ≤ end) (map (λ (s : Shard P). s.place) xs) p (each_place (λ n. n ≤ end) xs within) h

pub greatest_of : {P : Type 0} (xs : List (Shard P)) (first p : ℕ) → StandFrom first xs → some_stands_at p xs ≡ true → some_stands_at (max first p) xs ≡ true
greatest_of xs first p from h =
    let le : first ≤ p = not_below xs first p from h in
    let same : max first p ≡ p = omega (arith, le) in
    ap (λ (n : ℕ). some_stands_at n xs) same ∙ h

pub least_of : {P : Type 0} (xs : List (Shard P)) (k : ℕ) (s : Shard P) (p m : ℕ) → slice_get xs k ≡ Some s → m ≡ min p s.place → some_stands_at p xs ≡ true → some_stands_at m xs ≡ true
least_of xs k s p m there e h =
    ⊎_elim
    (λ (l : p < s.place). let same : m ≡ p = omega (arith, l, e) in ap (λ (n : ℕ). some_stands_at n xs) same ∙ h)
    (λ (l : s.place ≤ p). let same : m ≡ s.place = omega (arith, l, e) in ap (λ (n : ℕ). some_stands_at n xs) same ∙ stands_there xs k s there)
    (cases_lt p s.place)
