-- Placings: the shard of each session.
use Rattle.std.specs.Prelude.{ℕ, ◌%◌, ◌<◌, ◌≤◌, List, [], ◌∷◌, length, slice_index}
use Rattle.bx_advice.specs.declared.config.Config.{Config}
use Rattle.std.proofs.{Common.arith, Math.Nat.mod-lt}

-- A configuration, the number of shards, and the placing of sessions in them.
pub record Setup : Type 0 where
  pub config : Config
  pub shards : ℕ
  pub placing : ℕ → ℕ → ℕ

-- A configuration with `shards` shards and a placing.
abbrev pub placed_by : Config → ℕ → (ℕ → ℕ → ℕ) → Setup
placed_by config shards placing = record { config = config; shards = shards; placing = placing }

-- The shard of session `number`, if sessions are placed in the shards in turn. Shards count from 0.
abbrev pub by_remainder : ℕ → ℕ → ℕ
by_remainder number shards = number % shards

-- The shard of a session, if all sessions are placed in the first shard, number 0.
abbrev pub all_first : ℕ → ℕ → ℕ
all_first number shards = 0

-- The shard of session `number`, if sessions take the numbers of a table in turn, modulo `shards`.
-- With an empty table, it is the first shard.
abbrev pub by_table : List ℕ → ℕ → ℕ → ℕ
by_table [] number shards = 0
by_table (x ∷ xs) number shards = slice_index (x ∷ xs) (number % length (x ∷ xs)) % shards

-- ---- Each placing names a shard

-- Placing in turn names one of the shards, if there is one.
pub by_remainder-below : (number shards : ℕ) → 1 ≤ shards → by_remainder number shards < shards
by_remainder-below number shards some = mod-lt number (omega arith)

-- Placing by a table names one of the shards, if there is one.
pub by_table-below : (table : List ℕ) (number shards : ℕ) → 1 ≤ shards → by_table table number shards < shards
by_table-below [] number shards some = omega arith
by_table-below (x ∷ xs) number shards some = mod-lt (slice_index (x ∷ xs) (number % length (x ∷ xs))) (omega arith)
