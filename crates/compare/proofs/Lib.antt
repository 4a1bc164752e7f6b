-- Laws of the comparison: its refusal by the records, one device more, and what a device holds.
pub mod Judged
pub mod Found
pub mod Holding
