-- Laws of light: sums, lit clocks, and the claims for each part.
pub mod Sums
pub mod Small
pub mod Visits
pub mod Lit
pub mod Claims
