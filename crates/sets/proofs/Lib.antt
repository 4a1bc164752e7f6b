-- What a set has whose lists fit.
pub mod Fits
