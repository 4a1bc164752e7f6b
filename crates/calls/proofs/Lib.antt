-- What an accepted run says of its chain.
pub mod Accepted
