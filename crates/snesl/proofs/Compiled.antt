-- What translation makes is well-formed code over known ids.
pub mod Members
pub mod Sequences
pub mod Packing
pub mod Freshness
pub mod WellFormed
pub mod Scoped
pub mod Ascending
