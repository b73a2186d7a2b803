pub mod Scripts
pub mod FormLemmas
pub mod Replaced
pub mod Safe
