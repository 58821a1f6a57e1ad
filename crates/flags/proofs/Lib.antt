pub mod Clauses
pub mod Fronts
pub mod Stored
pub mod Written
