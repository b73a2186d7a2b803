pub mod Connects
pub mod Deadlines
pub mod Waking
pub mod Words
