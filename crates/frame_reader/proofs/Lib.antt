-- What the reader's proofs cite: a test of bytes, what a frame holds, what an accepted call knows, and the cases of an answer.
pub mod Tests
pub mod Held
pub mod Readable
