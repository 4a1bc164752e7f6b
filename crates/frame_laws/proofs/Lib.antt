-- What a user of the frame writer and of the two readers may rely on, and how it is shown.
pub mod Packed
pub mod Frame
pub mod Grouped
pub mod Configuration
pub mod RoundTrip
pub mod Returns
pub mod Cases
