pub mod RequestLemmas
pub mod Rooms
pub mod Settled
