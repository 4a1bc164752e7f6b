-- A set against a chain, when they are compared, and what it is to differ first.
pub mod Compare
pub mod Judging
pub mod Differences
