-- The order in which shards are advanced.
use Rattle.std.specs.Prelude.{ℕ, ◌+◌, ◌-◌, nat_lt, if◌then◌else◌}

-- The index of the shard at `step`, counting from `first` and wrapping around at `shards`.
abbrev pub walked_at : ℕ → ℕ → ℕ → ℕ
walked_at first shards step = if nat_lt step (shards - first) then first + step else step - (shards - first)
