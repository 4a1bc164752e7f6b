-- What the questions about the light of a device record answer.
pub mod OfDevice
