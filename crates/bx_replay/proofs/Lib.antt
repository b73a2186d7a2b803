pub mod Keeping
pub mod Nonces
pub mod Steps
pub mod Ready
pub mod Fronts
mod FirstLines
