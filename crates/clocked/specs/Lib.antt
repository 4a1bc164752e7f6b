-- A device with a clock and a chain of them, and what a cut leaves.
pub mod Clock
pub mod Cut
