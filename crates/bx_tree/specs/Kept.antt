-- Which lists are stored: those that are not empty.
use Rattle.std.specs.Prelude.{ℕ, Bool, true, false, List, [], ◌∷◌, Option}
use Rattle.std.specs.{Option.option_map_or, BTreeMap.BTreeMap}

-- Whether a list of numbers with stamps is not empty.
abbrev pub is_occupied : List (ℕ × ℕ) → Bool
is_occupied [] = false
is_occupied (n ∷ ns) = true

-- Whether a list is absent or not empty.
abbrev pub is_kept : Option (BTreeMap ℕ ℕ) → Bool
is_kept list = option_map_or (λ (numbers : BTreeMap ℕ ℕ). is_occupied numbers.entries) list true
