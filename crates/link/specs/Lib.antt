-- A record as a device of the model, the calls on the model's chain, and a restore as a caller makes it.
pub mod View
pub mod Called
pub mod Restore
