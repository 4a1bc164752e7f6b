-- The bench program's two arguments.
pub mod Arguments
