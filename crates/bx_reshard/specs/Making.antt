-- The new shards, created from their sessions.
use Rattle.std.specs.Prelude.{ℕ, ◌≡◌, ◌≤◌, Bool, Some, List, [], length, map, slice_get, vec_capacity}
use Rattle.std.specs.{List.All, Arc.arc_value}
use Rattle.std.specs.declared.sync.Arc.{Arc}
use Rattle.bx_shard.specs.declared.shard.Shard.{Shard}
use Rattle.bx_reshard.specs.declared.making.Room.{Room}
use Rattle.bx_reshard.specs.Heirs.{AreLent}

-- All handles in a list are to `placing`.
abbrev pub AreHandlesOf : {P Z : Type 0} → P → List (Arc P Z) → Type 0
AreHandlesOf placing handles = All (λ h. arc_value h ≡ placing) handles

-- `s` is shard `k` of `count`, with the placing `placing` and the place `place`. It is shut if
-- `shut` is `true`, and only then.
pub record IsMade {P : Type 0} (placing : P) (count place : ℕ) (shut : Bool) (k : ℕ) (s : Shard P) : Type 0 where
  pub placing_is : arc_value s.placing ≡ placing
  pub index_is : s.index ≡ k
  pub shards_is : s.shards ≡ count
  pub place_is : s.place ≡ place
  pub shut_is : s.is_closed_to_wakers ≡ shut

-- Each shard of a list is one of `count`, with its position as index. All have the placing
-- `placing` and the place `place`. They are shut if `shut` is `true`, and only then.
abbrev pub AreMade : {P : Type 0} → P → ℕ → ℕ → Bool → List (Shard P) → Type 0
AreMade {P} placing count place shut shards = (k : ℕ) (s : Shard P) → slice_get shards k ≡ Some s → IsMade placing count place shut k s

-- If all handles are to one placing, all shards have it. Each is one of `count`, with its position
-- as index, the place `place`, and shut if and only if `shut` is `true`.
abbrev pub AreMadeWith : {P Z : Type 0} → List (Arc P Z) → ℕ → ℕ → Bool → List (Shard P) → Type 0
AreMadeWith {P} handles count place shut shards = (placing : P) → AreHandlesOf placing handles → AreMade placing count place shut shards

-- `room` has everything that `count` new shards need for what the old shards `olds` have. Its
-- configuration, place and shut state are those of `first`, the first old shard.
pub record IsReady {P : Type 0} (place_of : P → ℕ → ℕ → ℕ) (placing : P) (count : ℕ) (olds : List (Shard P)) (room : Room P) : Type 0 where
  pub first : Shard P
  pub there : slice_get olds 0 ≡ Some first
  pub lent : AreLent (place_of placing) count (map (λ s. s.sessions) olds) first.sessions.config room.heirs.shards.items
  pub handles : AreHandlesOf placing room.handles.items
  pub many : length room.handles.items ≡ count
  pub empty : room.shards.items ≡ []
  pub capacity : count ≤ vec_capacity room.shards
  pub place_is : room.place ≡ first.place
  pub shut_is : room.is_closed_to_wakers ≡ first.is_closed_to_wakers
