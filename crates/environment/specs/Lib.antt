pub mod Words
pub mod Needs
