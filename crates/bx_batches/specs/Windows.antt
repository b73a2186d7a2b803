-- The queue and batches of a session, as the program stores them.
use Rattle.std.specs.Prelude.{ℕ}
use Rattle.bx_entry.specs.Windows.{Window}

-- The queue of a session, its outstanding batch, and for how many more events there is room.
pub record Windowed : Type 0 where
  pub contents : Window
  pub spare : ℕ
