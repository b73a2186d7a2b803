-- Decoding of JSON strings.
use Rattle.std.specs.Prelude.{◌≡◌, ℕ, ◌<◌, ◌≤◌, ◌-◌, List, [], ◌∷◌, ◌++◌, length, drop, slice_index, Option, Some, None, option_and_then, MatchOption}
use Rattle.std.specs.Char.{encode_utf8}
use Rattle.json.specs.Text.{Within, content, plain, prepend}
use Rattle.json.specs.Ascii as ascii
use Rattle.bx_cut.specs.Cut.{after_first}
use Rattle.bx_cut.specs.declared.string.Part.{Part}
use Rattle.bx_cut.specs.declared.string.Part.TheVariants.{End, Escape, Fault}

-- The decoded text of a JSON value, if it is a string.
abbrev pub spelled : List ℕ → Option (List ℕ)
spelled value = option_and_then (content plain) (after_first ascii.quote value)

-- The JSON string with content `text`, if no byte of `text` needs an escape.
abbrev pub quoted : List ℕ → List ℕ
quoted text = ascii.quote ∷ (text ++ (ascii.quote ∷ []))

-- ---- The next part of a string, for private clauses

-- `text` is the rest of a string, and begins in an escape. `within`: which part of the escape comes
-- before `text`, such as the backslash. `r`: the escape's character, and the length in bytes of its
-- part in `text`, which ends with an ASCII byte. If `r` is `None`, `text` is not the rest of a
-- string.
abbrev pub Unescapes : Within → List ℕ → Option (ℕ × ℕ) → Type 0
Unescapes within text r =
    MatchOption r (content within text ≡ None)
    (λ e. (content within text ≡ prepend (encode_utf8 e.0) (content plain (drop e.1 text))) × (0 < e.1) × (e.1 ≤ length text) × (slice_index text (e.1 - 1) < 128))

abbrev pub IsPart : Part → List ℕ → Type 0
IsPart End text = content plain text ≡ Some []
IsPart (Escape c rest) text = (content plain text ≡ prepend (encode_utf8 c) (content plain rest.now)) × (length rest.now < length text)
IsPart Fault text = content plain text ≡ None
