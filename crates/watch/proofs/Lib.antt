-- Laws of a watchdog within a run.
pub mod Clocks
pub mod Changes
pub mod Ears
pub mod Heeded
pub mod ByBlock
