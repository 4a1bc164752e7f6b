-- What the return reader answers, for any input.
pub mod Returns
