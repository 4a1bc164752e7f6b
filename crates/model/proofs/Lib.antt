-- Laws of lists, of frames and sets, and what a restore, whole or cut, does to a chain.
pub mod Lists
pub mod Wire
pub mod Edge
pub mod Frame
pub mod Set
pub mod Devices
pub mod Restore
pub mod Cut
pub mod CutSet
