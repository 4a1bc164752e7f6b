-- Laws of one device's differences: where two lists first differ, lists in turns, and the device group by group.
pub mod Differs
pub mod Lists
pub mod Groups
