pub mod Differences
pub mod Lists
pub mod Fields
pub mod Feeding
pub mod Scenes
pub mod Distributing
pub mod Entering
