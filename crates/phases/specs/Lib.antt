-- The phases of a device, and their numbers in the record.
pub mod Phases
