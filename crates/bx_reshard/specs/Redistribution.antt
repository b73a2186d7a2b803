-- The redistribution of sessions among another number of shards.
use Rattle.std.specs.Prelude.{ℕ, ◌==◌, ◌≡◌, ◌≢◌, ◌<◌, length, true, List, [], ◌∷◌, slice_get, if◌then◌else◌, is_some, Option, Some, None}
use Rattle.std.specs.Option.{option_or}
use Rattle.bx_entry.specs.Words.{Listed, Kept}
use Rattle.bx_connects.specs.declared.connects.ConnectState.{ConnectState}
use Rattle.bx_connects.specs.declared.connects.ConnectState.TheVariants.{Held, Filed}
use Rattle.bx_shard.specs.Words.{Refines, Setup, IsSound, State, connect_in, session_in}

-- ---- Contents of the shards

-- The first value that `f` gives for one of the shards, or `None` if it gives no value.
abbrev pub among : {X : Type 0} → (State → Option X) → List State → Option X
among f [] = None
among f (s ∷ ss) = option_or (f s) (among f ss)

-- Session `n`, from the first shard that has it.
abbrev pub session_among : List State → ℕ → Option Kept
session_among shards n = among (λ s. session_in s n) shards

-- The state of the connect at place `p`, from the first shard that has it.
abbrev pub connect_among : List State → ℕ → Option ConnectState
connect_among shards p = among (λ s. connect_in s p) shards

-- ---- Shards of one server

-- All shards of a list have the same configuration and the same place.
abbrev pub AreAlike : List State → Type 0
AreAlike shards = (i j : ℕ) (s t : State) → slice_get shards i ≡ Some s → slice_get shards j ≡ Some t → (s.setup.config ≡ t.setup.config) × (s.place ≡ t.place)

-- No two shards of a list share a session or a connect.
abbrev pub AreApart : List State → Type 0
AreApart shards = (i j : ℕ) (s t : State) → i ≢ j → slice_get shards i ≡ Some s → slice_get shards j ≡ Some t →
    ((n : ℕ) → is_some (session_in s n) ≡ true → session_in t n ≡ None) × ((p : ℕ) → is_some (connect_in s p) ≡ true → connect_in t p ≡ None)

-- Shards that agree with their definition `shard_at` after `n` entries have the same configuration
-- and place, and share no session or connect.
abbrev pub HoldersAreApart : Type 0
HoldersAreApart = (setup : Setup) (list : List Listed) (taken : List ℕ) (n : ℕ) (shards : List State) → ((k : ℕ) (s : State) → slice_get shards k ≡ Some s → Refines setup list taken k n s) →
    AreAlike shards × AreApart shards

-- ---- After redistribution

-- A connect, without its waker, if its session is placed in shard `k` of `count`; otherwise `None`.
abbrev pub redistributed_connect : (ℕ → ℕ → ℕ) → ℕ → ℕ → Option ConnectState → Option ConnectState
redistributed_connect placing count k None = None
redistributed_connect placing count k (Some (Held session deadline waker)) = if placing session count == k then Some (Held session deadline None) else None
redistributed_connect placing count k (Some (Filed session place answer)) = if placing session count == k then Some (Filed session place answer) else None

-- `new` is shard `k` of `count`, with the sessions of the shards `old` that are placed in it, and
-- their connects without wakers. It is shut if the first old shard is. Its configuration and its
-- place are those of the old shards, and its placing is `placing`.
pub record IsRedistributed (placing : ℕ → ℕ → ℕ) (count : ℕ) (old : List State) (k : ℕ) (new : State) : Type 0 where
  pub index : new.index ≡ k
  pub setup : (j : ℕ) (s : State) → slice_get old j ≡ Some s → new.setup ≡ record { config = s.setup.config; shards = count; placing = placing }
  pub place : (j : ℕ) (s : State) → slice_get old j ≡ Some s → new.place ≡ s.place
  pub shut : (s : State) → slice_get old 0 ≡ Some s → new.shut ≡ s.shut
  pub sessions : (n : ℕ) → session_in new n ≡ (if placing n count == k then session_among old n else None)
  pub connects : (p : ℕ) → connect_in new p ≡ redistributed_connect placing count k (connect_among old p)
  pub sound : IsSound new

-- `new` is `count` shards, each with the sessions of the shards `old` that are placed in it, and
-- their connects.
pub record Redistributed (placing : ℕ → ℕ → ℕ) (count : ℕ) (old new : List State) : Type 0 where
  pub many : length new ≡ count
  pub each : (k : ℕ) (s : State) → slice_get new k ≡ Some s → IsRedistributed placing count old k s

-- If the old shards agree with their definition `shard_at`, the new shards agree with it for the
-- new number of shards and the new placing.
abbrev pub RefinesRedistributed : Type 0
RefinesRedistributed = (setup : Setup) (list : List Listed) (taken : List ℕ) (n count : ℕ) (placing : ℕ → ℕ → ℕ) (old new : List State) → 0 < setup.config.limits.batch →
    length old ≡ setup.shards → ((m : ℕ) → setup.placing m setup.shards < setup.shards) → ((k : ℕ) (s : State) → slice_get old k ≡ Some s → Refines setup list taken k n s) →
    Redistributed placing count old new → (k : ℕ) (s : State) → slice_get new k ≡ Some s → Refines (record { config = setup.config; shards = count; placing = placing }) list taken k n s
