-- Laws of the closed form, of how small its numbers are, of the places that the code reads and writes, and of the most that a device draws.
pub mod Bounds
pub mod Front
pub mod Closed
pub mod Devices
pub mod EachClock
pub mod Answered
pub mod Most
pub mod Largest
