-- A device's position in the frame, and as a run keeps it.
pub mod Positions
pub mod Running
