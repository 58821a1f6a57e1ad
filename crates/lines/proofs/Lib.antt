pub mod Writing
pub mod IdLists
