-- The theorems: each function of crate snesl gives what the rules give.
pub mod Names
pub mod Typing
pub mod Formulas
pub mod Values
pub mod Evaluation
pub mod Representation
pub mod Xducers
pub mod Instructions
pub mod Translation
pub mod Correctness
pub mod Reading
pub mod Statements
