pub mod Places
pub mod Scenes
pub mod Arms
pub mod Making
