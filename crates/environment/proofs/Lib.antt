pub mod Stack
pub mod Finding
pub mod Entries
