pub mod Kept
pub mod Lines
pub mod Output
pub mod Printing
pub mod Reading
pub mod Reads
pub mod Replay
pub mod Words
