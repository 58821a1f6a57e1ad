-- Facts that know nothing of the product.
pub mod Options
pub mod Tests
pub mod Lists
pub mod Never
pub mod Parts
pub mod Emits
pub mod Whole
