-- What the frame reader answers, for any input.
pub mod Reading
