-- What a device holds.
pub mod Held
