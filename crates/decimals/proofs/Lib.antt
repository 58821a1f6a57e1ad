pub mod Stores
pub mod Parts
pub mod NumberText
pub mod NumberWriting
pub mod IntText
pub mod ShortInts
