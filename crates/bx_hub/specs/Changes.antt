-- Pausing, resuming, closing and sweeping shards.
use Rattle.std.specs.Prelude.{ℕ, ◌≡◌, ◌≢◌, List, true, length, IsSomeAnd}
use Rattle.std.specs.List.{All}
use mathlib.Core.List.{IsPrefix}
use Rattle.bx_connects.specs.Connects.{unswept}
use Rattle.bx_shard.specs.States.{State, Swept, WasShut, connect_in}
use Rattle.bx_hub.specs.Faults.{paused, resumed}
use Rattle.bx_hub.specs.declared.{activity.Activity.Activity, shard_state.evidence.ShardChange.ShardChange, shard_state.evidence.ChangeEvidence.ChangeEvidence, walk.ChangeReport.ChangeReport}
use Rattle.bx_hub.specs.declared.activity.Activity.TheVariants.{Active, Paused, Closed}
use Rattle.bx_hub.specs.declared.shard_state.evidence.ShardChange.TheVariants.{Pause, Resume, Shut, Sweep}

-- The activity of a shard after a change, from its activity before the change. `Pause` pauses only
-- an active shard, and `Resume` activates only a paused one. `Shut` closes the shard. `Sweep`
-- leaves the activity unchanged.
abbrev pub activity_after : ShardChange → Activity → Activity
activity_after Pause activity = paused activity
activity_after Resume activity = resumed activity
activity_after Shut activity = Closed
activity_after (Sweep before) activity = activity

-- The change turns the old state of a shard into the new one. A pause and a resume leave the state
-- unchanged. `Shut` removes the wakers of held connects, as `WasShut` states. A sweep drops
-- answers, as `Swept` states.
abbrev pub MakesOf : ShardChange → State → State → Type 0
MakesOf Pause old new = new ≡ old
MakesOf Resume old new = new ≡ old
MakesOf Shut old new = WasShut old new
MakesOf (Sweep before) old new = Swept before old new

-- The change turns the places of a shard's taken or swept answers from `old` into `new`. Only a
-- sweep adds places.
abbrev pub TakesOf : ShardChange → List ℕ → List ℕ → Type 0
TakesOf Pause old new = new ≡ old
TakesOf Resume old new = new ≡ old
TakesOf Shut old new = new ≡ old
TakesOf (Sweep before) old new = IsPrefix old new

-- The shard has the activity and the state `s` after the change. `Pause` leaves the shard not
-- active, and `Resume` not paused. `Shut` leaves it closed, also to wakers. After `Sweep`, no
-- answer is left that an entry before `before` filed.
abbrev pub IsAfter : ShardChange → Activity → State → Type 0
IsAfter Pause activity s = activity ≢ Active
IsAfter Resume activity s = activity ≢ Paused
IsAfter Shut activity s = (activity ≡ Closed) × (s.shut ≡ true)
IsAfter (Sweep before) activity s = (place : ℕ) → unswept before (connect_in s place) ≡ connect_in s place

module _ {L : Type 0} where
  -- The evidence is for shard `shard` and for `change`.
  abbrev pub IsChanged : ℕ → ShardChange → ChangeEvidence L → Type 0
  IsChanged shard change changed = (changed.shard.value ≡ shard) × (changed.change.value ≡ change)

  -- While the shard was locked, nothing but the change added to its taken answers.
  abbrev pub IsKeptBy : ShardChange → ChangeEvidence L → Type 0
  IsKeptBy change changed = IsSomeAnd changed.taken (λ taken. TakesOf change taken.before taken.after)

  -- The report is for `change`, and has a result for each of `shards` shards, whose taken answers
  -- nothing but the change added to.
  abbrev pub AreAllChanged : ℕ → ShardChange → ChangeReport L → Type 0
  AreAllChanged shards change all = (length all.done ≡ shards) × (all.change.value ≡ change) × All (IsKeptBy change) all.done
