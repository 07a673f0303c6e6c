pub mod Answers
pub mod Facts
