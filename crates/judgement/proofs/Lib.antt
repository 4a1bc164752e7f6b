-- One pass over a chain's records finds what the tests of a chain say (Pass).
pub mod Pass
