-- Machines in a chain.
pub mod Machine
