-- What the frame writer answers, for any input.
pub mod Writing
