-- Laws of positions.
pub mod Fits
pub mod Brought
