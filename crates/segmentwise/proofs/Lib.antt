pub mod Segment
pub mod Summing
pub mod Scanning
pub mod Keeping
