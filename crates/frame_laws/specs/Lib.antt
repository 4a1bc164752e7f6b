-- What the theorems on frames are stated with.
pub mod RoundTrip
