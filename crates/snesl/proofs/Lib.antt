-- The theorems about the definitions; Statements has what each says.
pub mod Bools
pub mod Compiled
pub mod Bounded
pub mod Correctness
pub mod Types
pub mod Representing
pub mod Texts
pub mod Formed
pub mod Views
pub mod Jobs
pub mod Table
pub mod Conditions
pub mod Statements
