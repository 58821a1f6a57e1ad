pub mod Walking
pub mod Holding
