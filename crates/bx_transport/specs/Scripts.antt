-- Characters that are escaped in a script.
use Rattle.std.specs.Prelude.{ℕ, List, nat_eq, codes, if◌then◌else◌, Option, Some, None}
use Rattle.std.specs.List.{starts_with}
use Rattle.bx_message.specs.Texts.{line_separator, paragraph_separator}

-- The escape of a text's first character, if it is U+2028 or U+2029, which end lines in scripts.
abbrev pub escape_at : List ℕ → Option (List ℕ)
escape_at text =
    if starts_with nat_eq text line_separator then Some (codes "\\u2028")
    else (if starts_with nat_eq text paragraph_separator then Some (codes "\\u2029") else None)
