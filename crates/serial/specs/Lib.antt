-- What the two operations between bytes and line states answer.
pub mod States
