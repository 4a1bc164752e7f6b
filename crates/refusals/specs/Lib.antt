-- When each call is refused, by what one pass over the records found.
pub mod Rows
