-- When the shards of a world agree with their definition `shard_at`.
use Rattle.std.specs.Prelude.{ℕ, ◌≡◌, ◌≤◌, ◌==◌, Bool, true, false, List, drop, length, map, slice_get, Some, None}
use Rattle.std.specs.List.{list_any}
use Rattle.bx_advice.specs.Limits.{greatest_length}
use Rattle.bx_entry.specs.Words.{Listed, entries}
use Rattle.bx_entry.specs.declared.entry.Entry.{Entry}
use Rattle.bx_shard.specs.Words.{Refines, state, Setup, IsAsBefore, IsSound, takes_no_memory}
use Rattle.bx_shard.specs.States as states
use Rattle.bx_shard.specs.declared.shard.Shard.{Shard}
use Rattle.bx_world.specs.declared.step.Applied.{Applied}
use Rattle.bx_world.specs.declared.step.Applied.TheVariants.{Done, Level, Memory}

-- The shard `s` agrees with its definition `shard_at` for index `k`, and has applied every entry
-- below `first`.
pub record RefinesFrom {P : Type 0} (place_of : P → ℕ → ℕ → ℕ) (setup : Setup) (list : List Listed) (taken : List ℕ) (first k : ℕ) (s : Shard P) : Type 0 where
  pub holds : Refines setup list taken k s.place (state place_of s)
  pub past : first ≤ s.place

-- Each shard agrees with its definition `shard_at` for its index, and has applied every entry
-- below `first`.
abbrev pub EachRefines : {P : Type 0} → (P → ℕ → ℕ → ℕ) → Setup → List Listed → List ℕ → ℕ → List (Shard P) → Type 0
EachRefines {P} place_of setup list taken first shards = (k : ℕ) → (s : Shard P) → slice_get shards k ≡ Some s → RefinesFrom place_of setup list taken first k s

-- Each shard has applied every entry below `first`.
abbrev pub StandFrom : {P : Type 0} → ℕ → List (Shard P) → Type 0
StandFrom {P} first shards = (k : ℕ) (s : Shard P) → slice_get shards k ≡ Some s → first ≤ s.place

-- No shard has applied an entry at `end` or later.
abbrev pub StandWithin : {P : Type 0} → ℕ → List (Shard P) → Type 0
StandWithin {P} end shards = (k : ℕ) (s : Shard P) → slice_get shards k ≡ Some s → s.place ≤ end

-- Whether some shard has applied exactly the entries below `place`.
abbrev pub some_stands_at : {P : Type 0} → ℕ → List (Shard P) → Bool
some_stands_at {P} place shards = list_any (λ n. n == place) (map (λ (s : Shard P). s.place) shards)

-- The invariant of a world. Its shards agree with their definitions, and the slowest has applied
-- exactly the entries below `first`. The entries from there on are `kept`.
pub record WorldHolds {P : Type 0} (place_of : P → ℕ → ℕ → ℕ) (setup : Setup) (list : List Listed) (taken : List ℕ)
    (first : ℕ) (kept : List Entry) (shards : List (Shard P)) : Type 0 where
  pub bounded : length list ≤ greatest_length
  pub some_shard : 1 ≤ setup.shards
  pub shards_in_range : setup.shards ≤ 64
  pub counted : length shards ≡ setup.shards
  pub holding : EachRefines place_of setup list taken first shards
  pub slowest : some_stands_at first shards ≡ true
  pub kept_is : kept ≡ drop first (entries setup.config list)

-- `new` is the shard `old` after it applied its next entry of `list`.
pub record HasApplied {P : Type 0} (place_of : P → ℕ → ℕ → ℕ) (list : List Entry) (old new : Shard P) : Type 0 where
  pub entry : Entry
  pub next : slice_get list old.place ≡ Some entry
  pub applied : states.Applied (state place_of old) entry (state place_of new)
  pub sound : IsSound (state place_of new)

-- `new` has the state of the shard `old`, because memory ran out for its next entry of `list`,
-- which may allocate.
pub record HasStayed {P : Type 0} (place_of : P → ℕ → ℕ → ℕ) (list : List Entry) (old new : Shard P) : Type 0 where
  pub entry : Entry
  pub next : slice_get list old.place ≡ Some entry
  pub takes : takes_no_memory entry ≡ false
  pub same : IsAsBefore (state place_of old) (state place_of new)
  pub sound : IsSound (state place_of new)

-- The shard applied its next entry of the list, or is unchanged because it has applied the whole
-- list or memory ran out.
abbrev pub IsApplication : {P : Type 0} → (P → ℕ → ℕ → ℕ) → List Entry → Shard P → Applied → Shard P → Type 0
IsApplication place_of list old Done new = HasApplied place_of list old new
IsApplication place_of list old Level new = (slice_get list old.place ≡ None) × (new ≡ old)
IsApplication place_of list old Memory new = HasStayed place_of list old new
