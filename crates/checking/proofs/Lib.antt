pub mod Closing
pub mod Walking
pub mod Walks
pub mod Judging
pub mod Entering
pub mod Checks
