pub mod Ending
pub mod Alike
pub mod Filling
pub mod Turns
pub mod Reading
pub mod Store
