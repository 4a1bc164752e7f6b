-- Callers' proofs cite Laws, the laws of bits and bytes, Fits, the laws of what fits into bytes, and Groups, those of values in groups.
pub mod Laws
pub mod Fits
pub mod Groups
