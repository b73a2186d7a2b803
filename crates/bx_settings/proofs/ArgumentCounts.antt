-- Proves that fewer than seven positional arguments are invalid.
use Rattle.std.proofs.Common.{◌≡◌, ℕ, ◌<◌, List, [], ◌∷◌, length, refl, arith}
use Rattle.std.specs.Prelude.{None}
use Rattle.bx_settings.specs.Settings.{settings_in}

pub few : (args : List (List ℕ)) → length args < 7 → None ≡ settings_in args
few [] short = refl
few (a ∷ []) short = refl
few (a ∷ b ∷ []) short = refl
few (a ∷ b ∷ c ∷ []) short = refl
few (a ∷ b ∷ c ∷ d ∷ []) short = refl
few (a ∷ b ∷ c ∷ d ∷ e ∷ []) short = refl
few (a ∷ b ∷ c ∷ d ∷ e ∷ f ∷ []) short = refl
few (a ∷ b ∷ c ∷ d ∷ e ∷ f ∷ g ∷ args) short = absurd (omega arith)
