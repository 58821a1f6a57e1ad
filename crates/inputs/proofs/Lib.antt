pub mod Supplying
pub mod Checking
pub mod Rows
pub mod OneLoaded
pub mod AllLoaded
pub mod Counting
