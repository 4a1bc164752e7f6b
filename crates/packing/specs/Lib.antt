-- What packing answers. Writing and Blocks, for the private functions below it, are inside.
pub mod Packing
pub mod Writing
pub mod Blocks
