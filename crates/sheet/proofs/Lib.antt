pub mod Starts
pub mod Needing
pub mod Admitting
pub mod Answering
pub mod Performing
pub mod Whole
pub mod OneAnswer
