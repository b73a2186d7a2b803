pub mod NumberLemmas
pub mod FilingLemmas
pub mod ConnectLemmas
