pub mod Reading
pub mod Measures
pub mod Lifting
pub mod Dispatch
pub mod Surveys
pub mod Lets
pub mod Comprehensions
pub mod Guards
