pub mod Asking
pub mod Scanning
pub mod Declaring
pub mod Texts
pub mod Fronts
