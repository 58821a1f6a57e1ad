-- A program's run (snesl, specs/Machine.antt) and the paper's instruction rules.
pub mod Stores
pub mod Running
pub mod Deriving
pub mod Deterministic
pub mod Needed
