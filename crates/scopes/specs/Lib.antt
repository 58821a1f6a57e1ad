pub mod Types
pub mod Scopes
pub mod UsingLists
