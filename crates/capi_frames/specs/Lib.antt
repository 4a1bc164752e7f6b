-- What the operations on frames answer, in numbers.
pub mod FrameAnswers
