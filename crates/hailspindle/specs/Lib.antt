pub mod Bases
pub mod Replies
pub mod Runs
