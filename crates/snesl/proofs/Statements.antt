-- Every theorem about the definitions, by its statement and in words: open these first.
pub mod Correctness
pub mod Compiled
pub mod Representation
pub mod Jobs
pub mod Conditions
