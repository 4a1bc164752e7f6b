-- The current of a set, clock by clock; what is answered; and the closed form that the code computes.
pub mod Current
pub mod Answers
pub mod Closed
pub mod Most
