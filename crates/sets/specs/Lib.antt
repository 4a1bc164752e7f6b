-- A set as a caller gives it, and what is judged of it.
pub mod Sets
