-- Laws of machines in a chain.
pub mod Machine
