pub mod EventOrder
pub mod ReadBack
pub mod Readers
pub mod Samples
pub mod Worked
