pub mod Sinks
pub mod Between
pub mod Trees
pub mod Sunk
pub mod Kept
pub mod Uses
