pub mod Noting
pub mod Replying
