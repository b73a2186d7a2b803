pub mod ObjectLemmas
pub mod Sizes
pub mod FieldLemmas
