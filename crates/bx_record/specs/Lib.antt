pub mod Configs
pub mod Faults
pub mod Record
pub mod Answers
pub mod AnswerLog
pub mod Laws
