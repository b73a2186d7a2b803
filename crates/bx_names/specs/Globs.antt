-- Patterns, and which names they match: channel globbing in Bayeux 1.0.
use Rattle.std.specs.Prelude.{ℕ, ◌+◌, ◌-◌, ◌==◌, ◌&&◌, Bool, true, false, List, [], ◌∷◌, ◌++◌, length, take, nat_lt, codes, if◌then◌else◌}
use Rattle.std.specs.{List.starts_with, List.list_any, Cmp.Lexicographic.pointwise, Str.bytes_eq}
use Rattle.bx_names.specs.Segments.{path_of}
use Rattle.bx_names.specs.declared.tail.Tail.{Tail}
use Rattle.bx_names.specs.declared.tail.Tail.TheVariants.{Exact, One, Many}

-- A pattern: its segments without the wildcard, and the wildcard, if any.
pub record Glob : Type 0 where
  pub segments : List (List ℕ)
  pub tail : Tail

-- ---- From the segments of a text

-- The last segment, or the empty text if there is none.
abbrev pub last_segment : List (List ℕ) → List ℕ
last_segment [] = []
last_segment (s ∷ []) = s
last_segment (s ∷ t ∷ ts) = last_segment (t ∷ ts)

-- The wildcard of a pattern with this last segment: `One` for `*`, `Many` for `**`, and otherwise
-- `Exact`.
abbrev pub tail_of : List ℕ → Tail
tail_of segment = if bytes_eq segment (codes "*") then One else (if bytes_eq segment (codes "**") then Many else Exact)

-- The pattern with this wildcard that is written with the segments `ss`. Unless the wildcard is
-- `Exact`, it is the last of `ss`, and the pattern's `segments` are the others.
abbrev pub ending_in : Tail → List (List ℕ) → Glob
ending_in Exact ss = record { segments = ss; tail = Exact }
ending_in One ss = record { segments = take (length ss - 1) ss; tail = One }
ending_in Many ss = record { segments = take (length ss - 1) ss; tail = Many }

-- The pattern that is written with the segments `ss`. If the last one is `*` or `**`, it is the
-- wildcard.
abbrev pub glob_of : List (List ℕ) → Glob
glob_of ss = ending_in (tail_of (last_segment ss)) ss

-- ---- Back to a text

-- The text of a wildcard with the slash before it. Without a wildcard, it is empty.
abbrev pub ending_text : Tail → List ℕ
ending_text Exact = []
ending_text One = codes "/*"
ending_text Many = codes "/**"

-- The text of a pattern: its segments, each after a slash, and its wildcard.
abbrev pub glob_text : Glob → List ℕ
glob_text p = path_of p.segments ++ ending_text p.tail

-- ---- Equality

abbrev pub same_tail : Tail → Tail → Bool
same_tail Exact Exact = true
same_tail One One = true
same_tail Many Many = true
same_tail _ _ = false

-- Whether two lists of segments are equal.
abbrev pub same_segments : List (List ℕ) → List (List ℕ) → Bool
same_segments = pointwise bytes_eq

-- Whether two patterns are equal.
abbrev pub same_glob : Glob → Glob → Bool
same_glob p q = same_segments p.segments q.segments && same_tail p.tail q.tail

-- ---- Matching

-- Whether a pattern with this wildcard and the other segments `own` matches `name`. Without a
-- wildcard, `name` must equal `own`. Otherwise it must begin with `own` and have one more segment
-- for `*`, and one or more for `**`.
abbrev pub matches_by : Tail → List (List ℕ) → List (List ℕ) → Bool
matches_by Exact own name = same_segments own name
matches_by One own name = (length name == length own + 1) && starts_with bytes_eq name own
matches_by Many own name = nat_lt (length own) (length name) && starts_with bytes_eq name own

-- Whether a pattern matches the name with segments `name`.
abbrev pub matches : Glob → List (List ℕ) → Bool
matches p name = matches_by p.tail p.segments name

-- Whether any of the patterns `ps` matches the name with segments `name`.
abbrev pub any_matches : List Glob → List (List ℕ) → Bool
any_matches ps name = list_any (λ p. matches p name) ps
