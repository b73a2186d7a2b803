-- Patterns without duplicates.
use Rattle.std.specs.Prelude.{◌≡◌, false, List, [], ◌∷◌}
use Rattle.bx_names.specs.Words.{Glob, in_force}

-- No pattern occurs twice.
abbrev pub AreOnce : List Glob → Type 0
AreOnce [] = Unit {0}
AreOnce (p ∷ ps) = (in_force ps p ≡ false) × AreOnce ps
