-- How a JSON text is split into parts. For other texts, the results have no meaning.
use Rattle.std.specs.Prelude.{◌≡◌, ◌≤◌, ℕ, zero, suc, ◌+◌, ◌-◌, ◌==◌, ◌||◌, List, [], ◌∷◌, length, take, drop, Bool, false, not, cond, Option, Some, None, option_map, option_and_then}
use Rattle.std.specs.{List.prefix_len, Str.IsCharBoundary}
use Rattle.json.specs.{Word.is_operator, Word.is_space, Lex.in_string, Align.span}
use Rattle.json.specs.Ascii as ascii

-- The text without leading whitespace.
abbrev pub past_blank : List ℕ → List ℕ
past_blank t = drop (prefix_len is_space t) t

abbrev pub is_word_byte : ℕ → Bool
is_word_byte x = not (is_operator x || is_space x)

abbrev pub opens : ℕ → Bool
opens x = (x == ascii.open_brace) || (x == ascii.open_bracket)

abbrev pub closes : ℕ → Bool
closes x = (x == ascii.close_brace) || (x == ascii.close_bracket)

pub data Scan : Type 0 where
  outside : Scan
  quoted : Scan
  escaped : Scan

-- The length of the rest of an array or object, through its closing bracket, in bytes. Without a
-- closing bracket, it is the length of the whole text. The text begins inside the array or object,
-- with `depth` more brackets open. `Scan` is the state at the start of the text: outside strings,
-- in a string (`quoted`), or after a backslash in a string (`escaped`).
unfoldable pub nest_len : Scan → ℕ → List ℕ → ℕ
nest_len m depth [] = 0
nest_len outside depth (x ∷ xs) =
    1 + cond (x == ascii.quote) (nest_len quoted depth xs) (cond (opens x) (nest_len outside (depth + 1) xs) (cond (closes x) (cond (depth == 0) 0 (nest_len outside (depth - 1) xs)) (nest_len outside depth xs)))
nest_len quoted depth (x ∷ xs) = 1 + cond (x == ascii.quote) (nest_len outside depth xs) (cond (x == ascii.backslash) (nest_len escaped depth xs) (nest_len quoted depth xs))
nest_len escaped depth (x ∷ xs) = 1 + nest_len quoted depth xs

-- The length of the value at the start of a text, in bytes, or 0 if there is none. The value is a
-- string, an array, an object, a number or a literal.
unfoldable pub value_len : List ℕ → ℕ
value_len [] = 0
value_len (x ∷ xs) = cond (x == ascii.quote) (1 + span in_string xs) (cond (opens x) (1 + nest_len outside 0 xs) (prefix_len is_word_byte (x ∷ xs)))

-- ---- Splitting a text from its start: the result is a part and the rest

abbrev pub begins_with : ℕ → List ℕ → Bool
begins_with b [] = false
begins_with b (x ∷ xs) = x == b

-- The rest after the byte `b`, if the text begins with it.
unfoldable pub after_first : ℕ → List ℕ → Option (List ℕ)
after_first b t = cond (begins_with b t) (Some (drop 1 t)) None

-- The rest after any whitespace and then the byte `b`, if the text begins with them.
abbrev pub past_byte : ℕ → List ℕ → Option (List ℕ)
past_byte b t = after_first b (past_blank t)

-- The first value of a text, which may follow whitespace, and the rest. `None` if the text does
-- not begin with a value.
unfoldable pub split_value : List ℕ → Option (List ℕ × List ℕ)
split_value t = cond (value_len (past_blank t) == 0) None (Some (take (value_len (past_blank t)) (past_blank t), drop (value_len (past_blank t)) (past_blank t)))

-- A key with its quotation marks, and the text of its value.
abbrev pub Member : Type 0
Member = List ℕ × List ℕ

abbrev pub with_value : List ℕ → Option (List ℕ × List ℕ) → Option (Member × List ℕ)
with_value key v = option_map (λ p. ((key, p.0), p.1)) v

abbrev pub after_key : List ℕ × List ℕ → Option (Member × List ℕ)
after_key p = cond (begins_with ascii.quote p.0) (option_and_then (λ r. with_value p.0 (split_value r)) (past_byte ascii.colon p.1)) None

-- The first member of a text, which may follow whitespace, and the rest. `None` if the text does
-- not begin with a member.
unfoldable pub split_member : List ℕ → Option (Member × List ℕ)
split_member t = option_and_then after_key (split_value t)

-- `rest` is the end of `text`, from a character boundary on.
pub record IsRest (rest text : List ℕ) : Type 0 where
  pub within : length rest ≤ length text
  pub same : rest ≡ drop (length text - length rest) text
  pub boundary : IsCharBoundary text (length text - length rest)

-- ---- Parts separated by commas

-- The parts at the start of a text, separated by commas, and the rest. `split` splits off one part.
-- The last part has no comma after it, or no part after its comma.
-- The number in `separated` limits the recursion; the text's length is always enough.
module _ {A : Type 0} (split : List ℕ → Option (A × List ℕ)) where
  abbrev pub then_more : (List ℕ → List A × List ℕ) → List ℕ → Option (List ℕ) → List A × List ℕ
  then_more more t None = ([], t)
  then_more more t (Some r) = more r

  abbrev pub first_and_more : (List ℕ → List A × List ℕ) → List ℕ → Option (A × List ℕ) → List A × List ℕ
  first_and_more more t None = ([], t)
  first_and_more more t (Some p) = (p.0 ∷ (then_more more p.1 (past_byte ascii.comma p.1)).0, (then_more more p.1 (past_byte ascii.comma p.1)).1)

  unfoldable pub separated : ℕ → List ℕ → List A × List ℕ
  separated zero t = ([], t)
  separated (suc n) t = first_and_more (separated n) t (split t)

  abbrev pub listed : List ℕ → List A × List ℕ
  listed t = separated (length t) t
