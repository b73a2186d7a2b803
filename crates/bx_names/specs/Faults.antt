-- Which texts are channel names or patterns, and why others are not.
use Rattle.std.specs.Prelude.{ℕ, ◌==◌, ◌||◌, not, Bool, List, [], ◌∷◌, length, nat_lt, if◌then◌else◌, Option, Some, None, Result, Ok, Err}
use Rattle.std.specs.List.{list_any}
use Rattle.bx_names.specs.Segments.{segments, is_absolute, is_empty}
use Rattle.bx_names.specs.Globs.{Glob, glob_of}
use Rattle.bx_names.specs.declared.{error.NameError.NameError, limits.TheConstants.MAX_NAME_BYTES, limits.TheConstants.MAX_NAME_SEGMENTS}
use Rattle.bx_names.specs.declared.error.NameError.TheVariants.{NoSlash, EmptySegment, BadByte, Wild, TooLong, TooDeep}

-- The error of the first case with a true test, if any. A case is a test and its error.
abbrev pub first_case : {E : Type 0} → List (Bool × E) → Option E
first_case [] = None
first_case (c ∷ cs) = if c.0 then Some c.1 else first_case cs

-- Whether a byte is a control byte, a space or DEL.
abbrev pub is_bad_byte : ℕ → Bool
is_bad_byte byte = nat_lt byte 33 || (byte == 127)

-- Whether a text has a byte that no name may have: a control byte, a space or DEL.
abbrev pub has_bad_byte : List ℕ → Bool
has_bad_byte = list_any is_bad_byte

-- Whether a byte is `*`.
abbrev pub is_star : ℕ → Bool
is_star byte = byte == 42

-- Whether a text has a `*`.
abbrev pub has_star : List ℕ → Bool
has_star = list_any is_star

-- The first fault of the path `text`, if any, in the order of `NameError`. `own`: the segments that
-- must not contain `*`. For a name, these are all. For a pattern, they are all except its wildcard.
abbrev pub path_fault : List ℕ → List (List ℕ) → Option NameError
path_fault text own = first_case (
    (not (is_absolute text), NoSlash)
    ∷ (list_any is_empty (segments text), EmptySegment)
    ∷ (list_any has_bad_byte (segments text), BadByte)
    ∷ (list_any has_star own, Wild)
    ∷ (nat_lt MAX_NAME_BYTES (length text), TooLong)
    ∷ (nat_lt MAX_NAME_SEGMENTS (length (segments text)), TooDeep)
    ∷ [])

-- The first fault of a text as a channel name, if any. No segment of a name may contain `*`.
abbrev pub name_fault : List ℕ → Option NameError
name_fault text = path_fault text (segments text)

-- The first fault of a text as a pattern, if any. Only the wildcard of a pattern may contain `*`.
abbrev pub pattern_fault : List ℕ → Option NameError
pattern_fault text = path_fault text (glob_of (segments text)).segments

-- The result of parsing: the fault if there is one, and otherwise the given value.
abbrev pub read_by : {V : Type 0} → Option NameError → V → Result V NameError
read_by None v = Ok v
read_by (Some fault) v = Err fault

-- The segments of the channel name in a text, or the text's fault.
abbrev pub read_name : List ℕ → Result (List (List ℕ)) NameError
read_name text = read_by (name_fault text) (segments text)

-- The pattern in a text, or the text's fault.
abbrev pub read_pattern : List ℕ → Result Glob NameError
read_pattern text = read_by (pattern_fault text) (glob_of (segments text))
