-- As many states as one device can take at once.
pub mod Intake
pub mod Words
