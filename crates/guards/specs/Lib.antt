pub mod Packs
pub mod Lists
pub mod Entering
