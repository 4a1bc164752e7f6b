-- Callers' proofs cite Answers, the laws of what unpacking answers. What only the reader needs is in Reading,
-- and what groups and blocks of them need in Lanes and Words.
pub mod Answers
mod Reading
mod Lanes
mod Words
