-- Lists that are filtered twice.
use Rattle.std.proofs.Common.{◌≡◌, Bool, List, [], ◌∷◌, refl, arith}
use Rattle.std.specs.Prelude.{◌&&◌, find}
use Rattle.std.proofs.lemmas.Grind.{common_steps}
use Rattle.std.specs.List.{filter}

module _ {X : Type 0} (p : X → Bool) where
  pub filter-more : (q : X → Bool) (xs : List X) → filter (λ y. p y && q y) (filter p xs) ≡ filter (λ y. p y && q y) xs
  filter-more q [] = refl
  filter-more q (x ∷ xs) = grind (arith, common_steps, filter-more q xs)

  pub find-more : (q : X → Bool) (xs : List X) → find (λ y. p y && q y) (filter p xs) ≡ find (λ y. p y && q y) xs
  find-more q [] = refl
  find-more q (x ∷ xs) = grind (arith, common_steps, find-more q xs)
