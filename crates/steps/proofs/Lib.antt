pub mod Stores
pub mod Walking
pub mod Stepping
pub mod Applying
pub mod Executing
pub mod Performing
pub mod Spanning
