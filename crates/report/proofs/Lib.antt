-- The laws behind the proofs of the functions.
mod Decimals
pub mod Restoring
