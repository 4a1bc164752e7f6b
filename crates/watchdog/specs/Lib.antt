-- A device with a watchdog and a chain of them, when one expires, what stands for old registers then, and many clocks at once.
pub mod Watched
pub mod Faded
pub mod Still
pub mod Stretch
