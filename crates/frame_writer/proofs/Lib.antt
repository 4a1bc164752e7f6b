-- What the writer's proofs cite: what an accepted call knows, and the pieces of a frame.
pub mod Writable
pub mod Pieces
