pub mod Elements
pub mod Givings
pub mod Laws
pub mod Tails
