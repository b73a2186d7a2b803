-- What is found in a map after `retain` with a function that keeps each value and changes it.
use Rattle.std.proofs.Common.{◌≡◌, ℕ, nat_eq, Bool, true, option_map, List, [], ◌∷◌, ap}
use Rattle.std.specs.{Map.lookup, Map.Calls.RetainsPairs}
use Rattle.std.proofs.lemmas.Grind.{common_steps}
use Rattle.std.proofs.Common.{arith}

module _ {X F : Type 0} (T : F → ℕ → X → Bool → X → F → Type 0) (turned : X → X) (f : F)
    (says : (k : ℕ) (v : X) (b : Bool) (w : X) (g : F) → T f k v b w g → (b ≡ true) × (w ≡ turned v) × (g ≡ f)) where
  pub lookup-turned : (es kept : List (ℕ × X)) → RetainsPairs T f es kept → (n : ℕ) → lookup (nat_eq n) kept ≡ option_map turned (lookup (nat_eq n) es)
  lookup-turned [] kept h n = ap (lookup (nat_eq n)) h
  lookup-turned (e ∷ es) kept h n = grind (arith, common_steps, lookup-turned es h.3)
