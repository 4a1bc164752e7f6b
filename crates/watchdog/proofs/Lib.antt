-- Laws of a chain with watchdogs: one device of it clock by clock, what no expiry changes, restores whole and cut, chains in which none
-- expires, many clocks of a device at once; and the worked examples.
pub mod Places
pub mod Faint
pub mod Clear
pub mod Device
pub mod Restored
pub mod Calm
pub mod Still
pub mod Idle
pub mod Silent
pub mod Stretch
pub mod Examples
