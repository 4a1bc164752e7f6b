-- What the functions' proofs cite, here and in the crates that write and read: tests, lengths, the pieces of a frame, what is judged of any
-- bytes, groups of rows, and what an accepted call knows.
pub mod Tests
pub mod Lengths
pub mod Pieces
pub mod Judged
pub mod Rowed
pub mod Accepted
