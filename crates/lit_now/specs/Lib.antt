-- Is an output of a lent chain lit now.
pub mod LitNow
pub mod BySchedule
pub mod Asked
