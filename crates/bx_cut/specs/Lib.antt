pub mod Bodies
pub mod Cut
pub mod Faults
pub mod Pieces
pub mod Strings
pub mod Views
pub mod Laws
pub mod Words
