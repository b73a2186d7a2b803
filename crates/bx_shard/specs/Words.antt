-- Names of this crate's definitions, for files that import several.
pub use Rattle.bx_shard.specs.Effects.{filing_each, forgetting, held_in, holding}
pub use Rattle.bx_shard.specs.Following.{Followed, alone, completed_by, given_up, rider_in, rides_of, unridden}
pub use Rattle.bx_shard.specs.Holdings.{IsReached, NumbersAscend, OpenedIsFresh, SessionsReached}
pub use Rattle.bx_shard.specs.Props.{holds_props}
pub use Rattle.bx_shard.specs.Publishing.{AllReady, IsPacked, Turn, Turns, numbers_of, published_at, reaches}
pub use Rattle.bx_shard.specs.Refining.{FiledIsGiven, IsConnectOf, Refines, RefinesAtFirst, RefinesBesideSwept, RefinesLonger, RefinesShut, RefinesStill, RefinesSwept, RefinesWatched, Took, filed_with_place, given_of, is_swept, swept_places}
pub use Rattle.bx_shard.specs.Seen.{setup_in, state}
pub use Rattle.bx_shard.specs.Sessions.{AreCountable, AreCounted, AreHeld, Fits, IsCounted, ends_for, has_formed_at_most, held_until, holds_until, kept_in, patterns_in}
pub use Rattle.bx_entry.specs.Placings.{Setup}
pub use Rattle.bx_shard.specs.Shards.{filed_among, is_taken, live_among, sessions_in, shard_at, is_placed_in}
pub use Rattle.bx_shard.specs.States.{Applied, Connects, IsAsBefore, IsGiven, IsSound, State, Swept, WasShut, Watched, begun, connect_in, if_live, dropped_by, opening, opens_in, riding, session_after, session_in, takes_no_memory}
pub use Rattle.bx_shard.specs.Steps.{ShardsStep, opening_by, stepped}
