-- Laws of what a device holds.
pub mod Flags
