-- The cases that a match leaves.
pub mod Cases
