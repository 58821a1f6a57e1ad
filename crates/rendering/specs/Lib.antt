pub mod Fitting
pub mod Standing
pub mod Showing
pub mod Rendering
