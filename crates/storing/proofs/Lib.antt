-- Laws of what a slice stores.
pub mod Lists
