-- Prefixes of lists, and the entry of a batch at a place.
use Rattle.std.proofs.Common.{◌≡◌, ℕ, zero, suc, ◌+◌, ◌-◌, ◌≤◌, List, [], ◌∷◌, length, take, drop, slice_get, Some, refl, subst, arith}
use mathlib.Core.List.{IsPrefix}
use Rattle.bx_advice.specs.declared.config.Config.{Config}
use Rattle.bx_entry.specs.Words.{Listed, entries}
use Rattle.bx_entry.specs.declared.entry.{Batch.Batch, Entry.Entry}
use Rattle.bx_window.specs.declared.law.LogStep.{LogStep}
use Rattle.bx_window.specs.Steps.{list_of}
use Rattle.bx_window.specs.Places.{IsOf, StandsIn}
use Rattle.bx_window.proofs.{Fronts.prefix_length, Lists.list_of-prefix}

pub takes_same : {A : Type 0} (n : ℕ) (xs ys : List A) → IsPrefix xs ys → n ≤ length xs → take n ys ≡ take n xs
takes_same zero xs ys p le = refl
takes_same (suc n) [] ys p le = absurd (omega arith)
takes_same (suc n) (x ∷ xs) [] p le = absurd (cc (p.1))
takes_same (suc n) (x ∷ xs) (y ∷ ys) p le =
    let heads : x ≡ y = cc (p.1) in cc (heads, takes_same n xs ys (p.0, cc (p.1)) (omega arith))

got_first : {A : Type 0} (xs es : List A) (k : ℕ) (e : A) → take (length es) xs ≡ es → slice_get es k ≡ Some e → slice_get xs k ≡ Some e
got_first xs [] k e h g = absurd (cc g)
got_first [] (y ∷ es) k e h g = absurd (cc h)
got_first (x ∷ xs) (y ∷ es) zero e h g = cc (h, g)
got_first (x ∷ xs) (y ∷ es) (suc k) e h g = got_first xs es k e (cc h) g

got_from : {A : Type 0} (xs es : List A) (f k : ℕ) (e : A) → take (length es) (drop f xs) ≡ es → slice_get es k ≡ Some e → slice_get xs (f + k) ≡ Some e
got_from xs es zero k e h g = let z : 0 + k ≡ k = omega arith in rw z (got_first xs es k e h g)
got_from [] es (suc f) k e h g = absurd (cc (got_first [] es k e h g))
got_from (x ∷ xs) es (suc f) k e h g = let z : suc f + k ≡ suc (f + k) = omega arith in rw z (got_from xs es f k e h g)

pub got : (config : Config) (list : List Listed) (b : Batch) (place : ℕ) (e : Entry) → StandsIn config list b → IsOf b place → slice_get b.entries (place - b.first) ≡ Some e → slice_get (entries config list) place ≡ Some e
got config list b place e h of g =
    let z : b.first + (place - b.first) ≡ place = omega (arith, of.0) in
    subst (λ p. slice_get (entries config list) p ≡ Some e) z (got_from (entries config list) b.entries b.first (place - b.first) e h g)

pub list_length : (xs ys : List LogStep) → IsPrefix xs ys → length (list_of xs) ≤ length (list_of ys)
list_length xs ys p = prefix_length (list_of xs) (list_of ys) (list_of-prefix xs ys p)
