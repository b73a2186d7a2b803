pub mod Segments
pub mod Globs
pub mod Equality
pub mod Faults
pub mod Kinds
pub mod InForce
pub mod Words
