-- The claims' proofs.
pub mod Tables
pub mod Sent
pub mod Chains
pub mod Edges
pub mod Demand
pub mod Watchdogs
pub mod Compared
pub mod RestoredSame
pub mod Scheduled
pub mod Largest
pub mod AnyRow
pub mod Examples
pub mod EdgeExamples
pub mod ClockExamples
pub mod WatchExamples
pub mod Claims
