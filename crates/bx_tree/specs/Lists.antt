-- Which sessions are stored at a path, and which for a pattern.
use Rattle.std.specs.Prelude.{◌≡◌, ◌≢◌, ℕ, Bool, false, is_some, List}
use Rattle.std.specs.{Option.option_map_or, Ordering.nat_cmp, BTreeMap.BTreeMap, BTreeMap.get, BTreeMap.get_by_text}
use Rattle.bx_names.specs.Words.{path_of, Glob, in_force}
use Rattle.bx_names.specs.declared.tail.Tail.{Tail}
use Rattle.bx_names.specs.declared.tail.Tail.TheVariants.{Exact, One, Many}
use Rattle.bx_tree.specs.declared.nodes.{path_lists.PathLists.PathLists, Nodes.Nodes}
use Rattle.bx_tree.specs.{Whole.AreWhole, Patterns.patterns_of}

-- Whether `number` is a key of the map `numbers`, whatever its value.
abbrev pub has_number : BTreeMap ℕ ℕ → ℕ → Bool
has_number numbers number = is_some (get nat_cmp numbers number)

-- Whether session `number` is stored at `path` in `lists`.
abbrev pub stands_at : PathLists → List ℕ → ℕ → Bool
stands_at lists path number = option_map_or (λ numbers. has_number numbers number) (get_by_text lists.by_path path) false

-- The lists in `nodes` for patterns that end in `tail`: without a wildcard, in `*`, or in `**`.
abbrev pub lists_of : Nodes → Tail → PathLists
lists_of nodes Exact = nodes.exact
lists_of nodes One = nodes.one
lists_of nodes Many = nodes.many

-- Whether session `number` is stored for `pattern` in the index `nodes`.
abbrev pub stands_for : Nodes → Glob → ℕ → Bool
stands_for nodes pattern number = stands_at (lists_of nodes pattern.tail) (path_of pattern.segments) number

-- In the index `nodes`, session `number` is stored for exactly the patterns in `held`.
abbrev pub IsIndexAt : Nodes → ℕ → List Glob → Type 0
IsIndexAt nodes number held = (pattern : Glob) → AreWhole pattern.segments → stands_for nodes pattern number ≡ in_force held pattern

-- All sessions except `number` are stored for the same patterns in `new` as in `old`.
abbrev pub KeepsOthers : ℕ → Nodes → Nodes → Type 0
KeepsOthers number old new = (pattern : Glob) → AreWhole pattern.segments → (n : ℕ) → n ≢ number → stands_for new pattern n ≡ stands_for old pattern n

-- In the index `nodes`, each session is stored for exactly its patterns in `all`.
abbrev pub IsIndexOf : Nodes → List (ℕ × List Glob) → Type 0
IsIndexOf nodes all = (pattern : Glob) → AreWhole pattern.segments → (number : ℕ) → stands_for nodes pattern number ≡ in_force (patterns_of all number) pattern
