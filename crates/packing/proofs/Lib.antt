-- Callers' proofs cite Answers, the laws of what packing answers. What only the writer needs is in Writing, and what only groups need in
-- Four, Laid and Whole.
pub mod Answers
mod Writing
mod Chunks
mod Four
mod Laid
mod Whole
