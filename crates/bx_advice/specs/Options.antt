-- The texts that select a server's options.
use Rattle.std.specs.Prelude.{ℕ, if◌then◌else◌, true, false, List, codes, Option, Some, None}
use Rattle.std.specs.Str.{bytes_eq}
use Rattle.bx_advice.specs.declared.options.Options.{Options}

-- The options that a text selects. `r` selects `ride`, `a` selects `anonymous`, `ra` both and `-`
-- neither. The result is `None` for any other text.
abbrev pub options_in : List ℕ → Option Options
options_in word =
    if bytes_eq word (codes "-") then Some (record { ride = false; anonymous = false })
    else if bytes_eq word (codes "r") then Some (record { ride = true; anonymous = false })
    else if bytes_eq word (codes "a") then Some (record { ride = false; anonymous = true })
    else if bytes_eq word (codes "ra") then Some (record { ride = true; anonymous = true })
    else None
