-- Laws of the light of a device record.
pub mod Records
pub mod Claims
