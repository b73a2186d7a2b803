-- Shards that advance to the end of some entries.
use Rattle.std.specs.Prelude.{ℕ, ◌+◌, ◌-◌, ◌<◌, ◌≤◌, ◌≡◌, List, [], ◌∷◌, length, count_by, nat_lt, slice_get, Some, Bool, false}
use Rattle.bx_entry.specs.Words.{Listed, entries}
use Rattle.bx_entry.specs.declared.entry.Entry.{Entry}
use Rattle.bx_shard.specs.Words.{Refines, setup_in, state, Setup, takes_no_memory}
use Rattle.bx_shard.specs.declared.shard.Shard.{Shard}

-- ---- Entries of the list

-- The place of the first entry, or 0 if there is none.
abbrev pub first_of : List Entry → ℕ
first_of [] = 0
first_of (e ∷ es) = e.place

-- The place after the last entry, or 0 if there are no entries.
abbrev pub end_of : List Entry → ℕ
end_of es = first_of es + length es

-- The entries are at consecutive places.
abbrev pub AreConsecutive : List Entry → Type 0
AreConsecutive es = (k : ℕ) → (e : Entry) → slice_get es k ≡ Some e → e.place ≡ first_of es + k

-- Each entry is the list's entry at its place.
abbrev pub AreOf : Setup → List Listed → List Entry → Type 0
AreOf setup list es = (k : ℕ) → (e : Entry) → slice_get es k ≡ Some e → slice_get (entries setup.config list) e.place ≡ Some e

-- ---- One shard

-- The place of shard `s` is that of an entry or just after the last. Without entries, it is any
-- place.
abbrev pub IsWithin : {P : Type 0} → List Entry → Shard P → Type 0
IsWithin es s = 0 < length es → (first_of es ≤ s.place) × (s.place ≤ end_of es)

-- Whether the shard is before the end of the entries; `false` if there are none.
abbrev pub is_behind : {P : Type 0} → List Entry → Shard P → Bool
is_behind [] s = false
is_behind (e ∷ es) s = nat_lt s.place (end_of (e ∷ es))

-- `new` is the shard `old` after it advanced, at most to the end of the entries `es`. If `old`
-- agrees with its definition `shard_at` for a list that has the entries, `new` does too. `new` is
-- at the end, or the next entry is one that may allocate. Its setup and index are those of `old`,
-- and it is shut if and only if `old` is.
pub record WentOn {P : Type 0} (place_of : P → ℕ → ℕ → ℕ) (es : List Entry) (old new : Shard P) : Type 0 where
  pub onward : old.place ≤ new.place
  pub within : IsWithin es old → IsWithin es new
  pub none : length es ≡ 0 → new.place ≡ old.place
  pub setup : setup_in place_of new ≡ setup_in place_of old
  pub index : new.index ≡ old.index
  pub shut : new.is_closed_to_wakers ≡ old.is_closed_to_wakers
  pub holds : (setup : Setup) (list : List Listed) (taken : List ℕ) (k : ℕ) → 0 < setup.config.limits.batch → AreOf setup list es →
      Refines setup list taken k old.place (state place_of old) → Refines setup list taken k new.place (state place_of new)
  pub stopped : (e : Entry) → slice_get es (new.place - first_of es) ≡ Some e → takes_no_memory e ≡ false

-- ---- Many shards

-- Each shard's place is that of an entry or just after the last one. Without entries, it is any
-- place.
abbrev pub AreWithin : {P : Type 0} → List Entry → List (Shard P) → Type 0
AreWithin {P} es shards = (k : ℕ) → (s : Shard P) → slice_get shards k ≡ Some s → IsWithin es s

-- `new` is the shards `old`, in the same order, after each advanced at most to the end of the
-- entries `es`.
pub record BroughtUp {P : Type 0} (place_of : P → ℕ → ℕ → ℕ) (es : List Entry) (old new : List (Shard P)) : Type 0 where
  pub all : length new ≡ length old
  pub each : (k : ℕ) → (s t : Shard P) → slice_get old k ≡ Some s → slice_get new k ≡ Some t → WentOn place_of es s t

-- How many shards are before the end of the entries.
abbrev pub count_behind : {P : Type 0} → List Entry → List (Shard P) → ℕ
count_behind es shards = count_by (is_behind es) shards
