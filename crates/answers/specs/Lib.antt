-- What an operation for C and Rust answers.
pub mod Answers
