pub mod Answers
pub mod Accepting
