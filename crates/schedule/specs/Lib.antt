-- Light: lit clocks, where a clock stands in the schedule, and what the questions about light answer.
pub mod Light
pub mod Moments
pub mod Answers
