-- The laws of Bool's operations, of refusals, of tables of numbers, and of loops that test a list.
pub mod Booleans
pub mod Rows
pub mod Table
pub mod Tests
