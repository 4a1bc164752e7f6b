-- Laws of the phases and of their numbers in the record.
pub mod Places
pub mod Rising
