pub mod Seed
pub mod Settings
