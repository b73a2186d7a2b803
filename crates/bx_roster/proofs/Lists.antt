-- Filtered lists.
use Rattle.std.proofs.Common.{◌≡◌, Bool, false, List, [], ◌∷◌, map, refl, arith}
use Rattle.std.proofs.lemmas.Grind.{common_steps}
use Rattle.std.specs.List.{filter}

module _ {X : Type 0} (p : X → Bool) where
  pub filter-map-filter : (f : X → X) → ((x : X) → p x ≡ false → p (f x) ≡ false) → (xs : List X) → filter p (map f (filter p xs)) ≡ filter p (map f xs)
  filter-map-filter f stays [] = refl
  filter-map-filter f stays (x ∷ xs) = grind (arith, common_steps, filter-map-filter f stays xs, stays x)

  pub filter-map : (f : X → X) → ((x : X) → p (f x) ≡ p x) → (xs : List X) → filter p (map f xs) ≡ map f (filter p xs)
  filter-map f same [] = refl
  filter-map f same (x ∷ xs) = grind (arith, common_steps, filter-map f same xs, same x)

  pub filter-filter : (xs : List X) → filter p (filter p xs) ≡ filter p xs
  filter-filter [] = refl
  filter-filter (x ∷ xs) = grind (arith, common_steps, filter-filter xs)
