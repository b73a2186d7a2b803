-- The number of shards that each fault stopped.
use Rattle.std.specs.Prelude.{List, [], ◌∷◌, Option, Some, None}
use Rattle.bx_hub.specs.Faults.{one_more}
use Rattle.bx_hub.specs.declared.fault.{HubFault.HubFault, Lagging.Lagging}

-- The number of shards that each fault stopped, from the fault of each shard, if it was stopped.
abbrev pub lagging_of : List (Option HubFault) → Lagging
lagging_of [] = record { memory = 0; overrun = 0; paused = 0; closed = 0; misplaced = 0 }
lagging_of (None ∷ stays) = lagging_of stays
lagging_of (Some fault ∷ stays) = one_more fault (lagging_of stays)
