pub mod Worlds
pub mod Schedules
pub mod Headline
pub mod Outputs
pub mod Refining
pub mod Seen
pub mod Words
