-- Laws of a chain with clocks: what every clock keeps, the chain without its clocks, clocks at once, restores whole and cut; and the worked
-- examples.
pub mod Kept
pub mod Lengths
pub mod Aged
pub mod Placed
pub mod Erase
pub mod Low
pub mod Restored
pub mod Cut
pub mod Examples
