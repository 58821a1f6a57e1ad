pub mod Laying
pub mod ReadingSteps
pub mod ReadingAt
pub mod Represented
pub mod StoringSteps
pub mod ReadingInts
