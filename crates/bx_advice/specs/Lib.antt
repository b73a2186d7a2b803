pub mod Errors
pub mod Limits
pub mod Configs
pub mod Advice
pub mod Options
