pub mod Heirs
pub mod Making
pub mod Redistribution
