-- The bytes of a line that are kept in memory.
use Rattle.std.specs.Prelude.{ℕ, ◌==◌, ◌&&◌, nat_lt, Bool, false, if◌then◌else◌, List, [], ◌∷◌, ◌++◌, fold, length}
use Rattle.bx_script.specs.declared.kept.TheConstants.{KEPT_LIMIT}

-- The bytes after the leading zeros.
abbrev pub without_zeros : List ℕ → List ℕ
without_zeros [] = []
without_zeros (x ∷ xs) = if x == 48 then without_zeros xs else x ∷ xs

-- Whether the bytes are a single digit, zero.
abbrev pub is_lone_zero : List ℕ → Bool
is_lone_zero [] = false
is_lone_zero (x ∷ []) = x == 48
is_lone_zero (x ∷ y ∷ ys) = false

-- The bytes that are kept after one more `byte`, up to `limit` of them. After a lone zero, more
-- zeros are dropped.
abbrev pub keep_byte : ℕ → List ℕ → ℕ → List ℕ
keep_byte limit kept byte =
    if is_lone_zero kept && (byte == 48) then kept
    else (if nat_lt (length kept) limit then kept ++ byte ∷ [] else kept)

-- The bytes of a line that are kept after another `part` of it. `kept`: those before the part.
abbrev pub kept_with : List ℕ → List ℕ → List ℕ
kept_with kept part = fold (keep_byte KEPT_LIMIT) kept part
