-- What a slice stores.
pub mod Stored
