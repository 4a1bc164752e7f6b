-- The parts as rows, and the wire: frames as bits and as line states.
pub mod Parts
pub mod Wire
