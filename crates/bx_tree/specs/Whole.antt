-- Segments as names and patterns have them, without slashes.
use Rattle.std.specs.Prelude.{◌≡◌, ℕ, List, [], ◌∷◌}
use Rattle.bx_names.specs.Segments.{parts}

-- No segment contains a slash.
abbrev pub AreWhole : List (List ℕ) → Type 0
AreWhole [] = Unit {0}
AreWhole (s ∷ ss) = (parts s ≡ s ∷ []) × AreWhole ss
