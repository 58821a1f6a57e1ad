-- The whole job: its inputs in the store, and what each outcome of a run of it says.
pub mod InputStreams
pub mod InputRoom
pub mod EarlyRefusals
pub mod Course
pub mod Ending
pub mod Demands
pub mod OneAnswer
pub mod Exactly
