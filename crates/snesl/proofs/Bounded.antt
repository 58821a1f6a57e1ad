-- A run in a buffer of so many elements, against the run that has room for everything.
pub mod Runs
pub mod Room
