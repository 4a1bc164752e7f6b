-- What a frame is, and what is judged of every frame.
pub mod Frames
