pub mod Keeping
pub mod Nonces
pub mod Cuts
pub mod Parts
pub mod Says
pub mod Script
pub mod Fronts
