-- The holds of a shard, ordered by their deadlines.
use Rattle.std.specs.Prelude.{ℕ, ◌≡◌, nat_eq, ◌&&◌, Bool, false, List, Option, Some, None}
use Rattle.std.specs.{Ordering.nat_cmp, Ordering.ordering_then, BTreeSet.contains}
use Rattle.std.specs.declared.cmp.Ordering.{Ordering}
use Rattle.bx_connects.specs.declared.{deadlines.Deadlines.Deadlines, held.HeldConnect.HeldConnect}
use Rattle.bx_connects.specs.Connects.{hold_at}

-- Compares holds by deadline, then by the connect's place, then by the session's number.
abbrev pub hold_cmp : ℕ × ℕ × ℕ → ℕ × ℕ × ℕ → Ordering
hold_cmp x y = ordering_then (ordering_then (nat_cmp x.0 y.0) (nat_cmp x.1 y.1)) (nat_cmp x.2 y.2)

-- Whether two holds are equal.
abbrev pub same_hold : ℕ × ℕ × ℕ → ℕ × ℕ × ℕ → Bool
same_hold x y = nat_eq x.0 y.0 && nat_eq x.1 y.1 && nat_eq x.2 y.2

-- Whether a hold is in `deadlines`.
abbrev pub is_noted : Deadlines → ℕ × ℕ × ℕ → Bool
is_noted deadlines hold = contains hold_cmp deadlines.holds hold

-- Whether a deadline exists and is equal to `moment`.
abbrev pub ends_at : Option ℕ → ℕ → Bool
ends_at None moment = false
ends_at (Some deadline) moment = nat_eq deadline moment

-- Whether a connect is held, by `session` and until `deadline`.
abbrev pub is_held_until : Option HeldConnect → ℕ → ℕ → Bool
is_held_until None session deadline = false
is_held_until (Some h) session deadline = ends_at h.deadline deadline && nat_eq h.session session

-- `deadlines` has exactly those holds in `held` that have a deadline.
abbrev pub AreNoted : List (ℕ × HeldConnect) → Deadlines → Type 0
AreNoted held deadlines = (place session deadline : ℕ) → is_noted deadlines (deadline, place, session) ≡ is_held_until (hold_at held place) session deadline
