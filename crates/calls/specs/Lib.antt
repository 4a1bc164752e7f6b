-- The plain chain of records, the three calls on it, lists of calls, what a caller knows by them, and when watchdogs expire in them.
pub mod Chain
pub mod Calls
pub mod History
pub mod Told
pub mod Expiry
