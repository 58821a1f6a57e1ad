pub mod Declarations
pub mod Reading
