-- ON subframes and leads, and what the questions about them answer.
pub mod Subframes
pub mod Answers
