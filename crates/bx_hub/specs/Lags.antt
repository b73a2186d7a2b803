-- Which shard keeps a full window from being trimmed, or is overrun.
use Rattle.std.specs.Prelude.{ℕ, ◌≡◌, ◌<◌, List, Option, Some, None, IsSomeAnd}
use Rattle.bx_hub.specs.Posts.{IsUntrimmable}
use Rattle.bx_hub.specs.declared.{fault.HubFault.HubFault, fault.PostFault.PostFault, shard_state.evidence.ShardAdvance.ShardAdvance}
use Rattle.bx_hub.specs.declared.fault.HubFault.TheVariants as stops
use Rattle.bx_hub.specs.declared.fault.PostFault.TheVariants.{Behind, Overrun, WrongShard}
use Rattle.bx_window.specs.Steps.{begin_of}
use Rattle.bx_window.specs.declared.law.LogStep.{LogStep}

-- The fault of a post if shard `index` has the lowest position and the full window has no room
-- because the shard is overrun or was not found. `None` for other faults of the shard.
abbrev pub no_room_of : ℕ → Option HubFault → Option PostFault
no_room_of index (Some (stops.Overrun shard place)) = Some (Overrun shard place)
no_room_of index (Some (stops.WrongShard found)) = Some (WrongShard index found)
no_room_of index _ = None

module _ {L : Type 0} where
  -- With `Behind`, `lag` is the result of a shard that was found and is not overrun, and no batch
  -- in the window of `front` is wholly before its position. With `Overrun`, `lag` is the result of
  -- the shard and has the position that the fault names, before the window that the shard's reader
  -- saw. Other faults claim nothing.
  abbrev pub IsLagging : PostFault → Option (ShardAdvance L) → List LogStep → Type 0
  IsLagging (Behind first) lag front = IsSomeAnd lag (λ s. (no_room_of s.index s.stays ≡ None) × IsUntrimmable s.place front)
  IsLagging (Overrun shard place) lag front = IsSomeAnd lag (λ s. (s.index ≡ shard) × ((s.place ≡ place) × (s.place < begin_of s.front)))
  IsLagging _ lag front = Unit {0}
