pub mod Answers
pub mod Walks
pub mod Fills
