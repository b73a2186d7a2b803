pub mod Live
pub mod Tables
pub mod Queues
pub mod Edits
pub mod Kept
pub mod Words
