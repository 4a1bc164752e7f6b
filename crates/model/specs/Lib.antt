-- Relations on lists, a device, a set, a restore.
pub mod Lists
pub mod Device
pub mod Edge
pub mod Set
pub mod Restore
