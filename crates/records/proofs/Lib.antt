pub mod Bounds
pub mod Bits
pub mod Variables
pub mod Heads
