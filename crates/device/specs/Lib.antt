-- The step of a device, the judgement of a record, and runs of states.
pub mod Step
pub mod Judgement
pub mod Run
