-- Laws of subframes: signed differences, ON subframes, and the claims for each part.
pub mod Signed
pub mod Subframes
pub mod Claims
