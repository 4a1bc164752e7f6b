-- What unpacking answers. Reading and Blocks, for the private functions below it, are inside.
pub mod Unpacking
pub mod Reading
pub mod Blocks
