pub mod Kept
pub mod Whole
pub mod Once
pub mod Patterns
pub mod Lists
pub mod Walks
pub mod Words
