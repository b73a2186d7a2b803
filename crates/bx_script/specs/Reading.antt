-- How a line is read.
use Rattle.std.specs.Prelude.{ℕ, ◌≡◌, ◌≢◌, ◌<◌, ◌+◌, Bool, true, false, List, [], length, Option, Some, None, ⊤}
use Rattle.std.specs.List.{before_first, after_first, position_or_len}
use Rattle.bx_script.specs.{Replay.is_newline, Kept.kept_with}
use Rattle.bx_script.specs.declared.part.ReadOutcome.{ReadOutcome}
use Rattle.bx_script.specs.declared.part.ReadOutcome.TheVariants.{Again, More, Line, End}

-- The first line of a script, without its line feed.
abbrev pub first_of : List ℕ → List ℕ
first_of script = before_first is_newline script

-- The bytes of a script after its first line and the line feed.
abbrev pub rest_of : List ℕ → List ℕ
rest_of script = after_first is_newline script

-- What one read with this outcome changes. The bytes that are left change from `before` to `after`.
-- The bytes that are kept of the line change from `kept` to `now`.
abbrev pub PartRead : ReadOutcome → List ℕ → List ℕ → List ℕ → List ℕ → Type 0
PartRead Again before after kept now = (after ≡ before) × (now ≡ kept)
PartRead More before after kept now = (before ≢ []) × (kept_with now (first_of after) ≡ kept_with kept (first_of before)) × (rest_of after ≡ rest_of before)
PartRead Line before after kept now = (before ≢ []) × (now ≡ kept_with kept (first_of before)) × (after ≡ rest_of before)
PartRead End before after kept now = (before ≡ []) × (after ≡ before) × (now ≡ kept)

-- What one read with the outcome `step` changes, as in `PartRead`. Nothing is stated if the bytes
-- that were left before the read are not known.
abbrev pub ReadsPart : ReadOutcome → Option (List ℕ) → Option (List ℕ) → List ℕ → List ℕ → Type 0
ReadsPart step None new kept now = ⊤
ReadsPart step (Some before) None kept now = ⊥
ReadsPart step (Some before) (Some after) kept now = PartRead step before after kept now

-- If a line was found (`true`), it is the first line of `before`. `kept` is what is kept of this
-- line, and `after` is what follows the line. Otherwise no byte was left.
abbrev pub LineRead : Bool → List ℕ → List ℕ → List ℕ → Type 0
LineRead true before after kept = (before ≢ []) × (kept ≡ kept_with [] (first_of before)) × (after ≡ rest_of before)
LineRead false before after kept = (before ≡ []) × (after ≡ [])

-- The result of reading a line, as in `LineRead`. Nothing is stated if the bytes that were left
-- before the line are not known.
abbrev pub ReadsLine : Bool → Option (List ℕ) → Option (List ℕ) → List ℕ → Type 0
ReadsLine found None new kept = ⊤
ReadsLine found (Some before) None kept = ⊥
ReadsLine found (Some before) (Some after) kept = LineRead found before after kept

-- If a line has begun (`true`), bytes were left before it. If no line has begun (`false`), no byte
-- was read.
abbrev pub IsBegun : Bool → List ℕ → List ℕ → Type 0
IsBegun true before after = before ≢ []
IsBegun false before after = after ≡ before

-- While a line is read, `kept` and the rest of the line give what is kept of the whole line.
-- Nothing is stated if the bytes before the line are not known.
abbrev pub ReadingOn : Bool → Option (List ℕ) → Option (List ℕ) → List ℕ → Type 0
ReadingOn began None new kept = ⊤
ReadingOn began (Some before) None kept = ⊥
ReadingOn began (Some before) (Some after) kept = IsBegun began before after × (kept_with kept (first_of after) ≡ kept_with [] (first_of before)) × (rest_of after ≡ rest_of before)

-- The first `n` of the `shown` bytes belong to the line, and `used` are consumed, including the
-- line feed, if any. The outcome is `Line` with a line feed, `More` without one, and `End` if no
-- bytes are shown.
abbrev pub IsCut : List ℕ → ℕ → ℕ → ReadOutcome → Type 0
IsCut shown n used Again = ⊥
IsCut shown n used More = (shown ≢ []) × (n ≡ length shown) × (used ≡ length shown) × (position_or_len is_newline shown ≡ length shown)
IsCut shown n used Line = (n ≡ position_or_len is_newline shown) × (used ≡ n + 1) × (n < length shown)
IsCut shown n used End = (shown ≡ []) × (n ≡ 0) × (used ≡ 0)
