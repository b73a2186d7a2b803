pub mod ConnectLemmas
pub mod DeadlineLemmas
pub mod HoldLemmas
pub mod WakingLemmas
