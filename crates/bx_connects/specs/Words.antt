-- Names of this crate's definitions, for files that import several.
pub use Rattle.bx_connects.specs.Connects.{IsHeldUntil, KnownConnects, connect_at, count_held, filed_as, filing_at, held_by, hold_at, is_both, session_at, state_by, taken_from, unwatched, unwatched_hold, watched, with_waker}
pub use Rattle.bx_connects.specs.Deadlines.{ends_at, is_held_until}
pub use Rattle.bx_connects.specs.Waking.{AreTaken, AreWoken, waker_of, without}
