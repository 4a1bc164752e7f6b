-- The groups of one device, and where it first differs from what is its own.
pub mod Groups
