pub mod Segments
pub mod Flags
