-- Laws of single bits and states, by their places.
pub mod Laws
