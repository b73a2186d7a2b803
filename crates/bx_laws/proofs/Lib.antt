pub mod EventOrder
pub mod Given
pub mod Holds
pub mod ReadBack
pub mod Readers
pub mod Written
