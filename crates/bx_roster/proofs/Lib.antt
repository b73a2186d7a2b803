pub mod Lists
pub mod Live
pub mod Tables
pub mod Sessions
pub mod Kept
pub mod Filing
pub mod Dues
pub mod Past
