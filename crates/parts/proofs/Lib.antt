-- Laws of the parts, of the commands and their slices, and of N; and the cases of a command that a `_` leaves.
pub mod Laws
pub mod Rows
pub mod Frames
