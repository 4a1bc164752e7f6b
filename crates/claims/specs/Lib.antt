-- What is claimed, what it is to answer by a table, and the lettered examples of docs/RULES.md.
pub mod Tables
pub mod Examples
pub mod Claims
