-- A device's watchdog, and as a run keeps it.
pub mod Watch
pub mod Kept
pub mod Ear
pub mod Blocks
