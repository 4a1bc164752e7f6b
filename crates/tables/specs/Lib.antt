-- Tables of refusals, and the tests of whole lists that their rows have.
pub mod Refusals
pub mod Lists
