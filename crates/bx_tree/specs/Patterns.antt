-- Which patterns are active for which session: the model of the tree.
use Rattle.std.specs.Prelude.{ℕ, nat_eq, List, []}
use Rattle.std.specs.{Option.unwrap_or, Map.lookup}
use Rattle.bx_names.specs.Globs.{Glob}

-- The patterns of session `number` in `all`, in the order in which they were added. The list is
-- empty if `all` does not have the session.
abbrev pub patterns_of : List (ℕ × List Glob) → ℕ → List Glob
patterns_of all number = unwrap_or (lookup (nat_eq number) all) []
