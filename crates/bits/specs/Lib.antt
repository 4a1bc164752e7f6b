-- Bits, bytes, what fits into them, and values in groups. Words, for private functions, is inside.
pub mod Bits
pub mod Groups
pub mod Words
