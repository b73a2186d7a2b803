-- The active patterns of one session, in the order in which they were added.
use Rattle.std.specs.Prelude.{Bool, List, [], ◌∷◌, ◌++◌, not, filter, if◌then◌else◌}
use Rattle.std.specs.List.{list_any}
use Rattle.bx_names.specs.Globs.{Glob, same_glob}

-- Whether `p` is one of the active `patterns`.
abbrev pub in_force : List Glob → Glob → Bool
in_force patterns p = list_any (same_glob p) patterns

-- The active `patterns` after `p` is added: followed by `p`, or unchanged if `p` is one of them.
abbrev pub with_pattern : List Glob → Glob → List Glob
with_pattern patterns p = if in_force patterns p then patterns else patterns ++ p ∷ []

-- The active `patterns` after `p` is removed. They are unchanged if `p` is not one of them.
abbrev pub without_pattern : List Glob → Glob → List Glob
without_pattern patterns p = filter (λ q. not (same_glob p q)) patterns
