pub mod Outputs
pub mod Waiting
