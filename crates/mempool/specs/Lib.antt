pub mod Answers
pub mod Turns
pub mod Waiting
