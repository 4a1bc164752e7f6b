-- Laws of the device.
pub mod Places
pub mod Position
pub mod Shown
pub mod Kept
