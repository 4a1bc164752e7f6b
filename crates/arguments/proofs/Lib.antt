-- The laws behind the proofs of the functions.
mod Numerals
