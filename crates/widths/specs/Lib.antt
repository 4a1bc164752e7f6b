-- When what a device holds is within its widths.
pub mod Widths
