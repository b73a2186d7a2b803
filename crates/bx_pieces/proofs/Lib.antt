pub mod Joined
pub mod Splits
