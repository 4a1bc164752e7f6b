-- What an accepted fault setting names (Named), what the outcome of a run says of its refusal (Outcome), and where a run stands in its loop (Standing).
pub mod Named
pub mod Outcome
pub mod Standing
