-- The program's shard as a `State`, for the definitions.
use Rattle.std.specs.Prelude.{ℕ}
use Rattle.std.specs.Arc.{arc_value}
use Rattle.bx_shard.specs.declared.shard.Shard.{Shard}
use Rattle.bx_entry.specs.Placings.{Setup}
use Rattle.bx_shard.specs.States.{State}

-- The configuration of a shard, with the number of shards and the placing.
abbrev pub setup_in : {P : Type 0} → (P → ℕ → ℕ → ℕ) → Shard P → Setup
setup_in place_of s = record { config = s.sessions.config; shards = s.shards; placing = place_of (arc_value s.placing) }

-- The program's shard as a `State`: its setup, index, place, sessions, and whether it is shut.
abbrev pub state : {P : Type 0} → (P → ℕ → ℕ → ℕ) → Shard P → State
state place_of s = record { setup = setup_in place_of s; index = s.index; place = s.place; shut = s.is_closed_to_wakers; sessions = s.sessions }
