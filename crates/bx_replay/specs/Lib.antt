pub mod Arguments
pub mod Faults
pub mod Kept
pub mod Records
pub mod Serving
