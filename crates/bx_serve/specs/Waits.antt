-- What a stream of connections waits for.
use Rattle.std.specs.Prelude.{◌≡◌, ℕ, Bool, if◌then◌else◌}

-- `source` is that of the timer during a pause, and otherwise that of the listener.
abbrev pub Awaits : Bool → ℕ → ℕ → ℕ → Type 0
Awaits is_paused timer listener source = source ≡ (if is_paused then timer else listener)
