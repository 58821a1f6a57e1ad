pub mod Inputs
pub mod Lists
