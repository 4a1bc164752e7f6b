-- The link of records and the model, and the calls on records.
pub mod Numbers
pub mod View
pub mod Arrays
pub mod Header
pub mod Slice
pub mod Device
pub mod Calls
pub mod Modelled
pub mod Flags
pub mod Told
pub mod Frames
pub mod Expiry
pub mod Records
