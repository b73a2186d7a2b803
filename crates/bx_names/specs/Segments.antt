-- Absolute paths such as `/a/b`, as texts and as lists of segments.
use Rattle.std.specs.Prelude.{ℕ, ◌==◌, Bool, true, false, List, [], ◌∷◌, ◌||◌}
use Rattle.std.specs.List.{slice_split, flat_map}

-- Whether a byte is `/`.
abbrev pub is_slash : ℕ → Bool
is_slash byte = byte == 47

-- The parts of a text between its slashes. A text without a slash is one part.
abbrev pub parts : List ℕ → List (List ℕ)
parts = slice_split is_slash

-- The segments of an absolute path: the parts after its first byte, a slash. The empty text has
-- none.
abbrev pub segments : List ℕ → List (List ℕ)
segments [] = []
segments (first ∷ rest) = parts rest

-- Whether a text begins with a slash.
abbrev pub is_absolute : List ℕ → Bool
is_absolute [] = false
is_absolute (first ∷ rest) = is_slash first

-- Whether a text is empty.
abbrev pub is_empty : List ℕ → Bool
is_empty [] = true
is_empty (first ∷ rest) = false

-- Whether a text is empty, or begins with a slash. The empty path has no segments.
abbrev pub is_path : List ℕ → Bool
is_path text = is_empty text || is_absolute text

-- The text of an absolute path: its segments, each after a slash.
abbrev pub path_of : List (List ℕ) → List ℕ
path_of = flat_map (λ segment. 47 ∷ segment)
