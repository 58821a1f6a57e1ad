pub mod Admission
pub mod Runs
