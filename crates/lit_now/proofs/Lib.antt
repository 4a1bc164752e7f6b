-- The call's answer as the code comes to it is the one that specs/LitNow says, and it is the schedule's.
pub mod Answered
