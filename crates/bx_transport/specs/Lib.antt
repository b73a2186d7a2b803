pub mod Forms
pub mod Transports
pub mod Scripts
pub mod Statuses
pub mod Laws
