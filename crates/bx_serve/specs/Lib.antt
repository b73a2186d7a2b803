pub mod Handing
pub mod Timeouts
pub mod Waits
