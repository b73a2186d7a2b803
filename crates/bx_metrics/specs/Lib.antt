pub mod Outcomes
pub mod Responses
