-- Which sessions a search along a name finds.
use Rattle.std.specs.Prelude.{ℕ, nat_eq, ◌&&◌, ◌||◌, Bool, true, false, List, [], ◌∷◌, ◌++◌}
use Rattle.std.specs.List.{list_any}
use Rattle.bx_tree.specs.declared.nodes.Nodes.{Nodes}
use Rattle.bx_tree.specs.Lists.{stands_at}

-- Whether `number` is in the list `numbers`.
abbrev pub is_among : List ℕ → ℕ → Bool
is_among numbers number = list_any (nat_eq number) numbers

-- Whether the list of the segments that are left is empty.
abbrev pub is_end : List (List ℕ) → Bool
is_end [] = true
is_end (segment ∷ rest) = false

-- Whether a search in `nodes` from `path` on, along the segments that are left, finds session
-- `number`. The search looks up the list for `**` before each segment, the list for `*` before the
-- last one, and finally the list for the name itself.
abbrev pub is_met : Nodes → List ℕ → List (List ℕ) → ℕ → Bool
is_met nodes path [] number = stands_at nodes.exact path number
is_met nodes path (segment ∷ rest) number =
    stands_at nodes.many path number || (is_end rest && stands_at nodes.one path number) || is_met nodes (path ++ 47 ∷ segment) rest number
