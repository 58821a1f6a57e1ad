-- Values as text and back.
pub mod Decimals
pub mod Reading
pub mod IntText
pub mod BoolText
pub mod ListText
pub mod TextRoundTrip
pub mod Range
pub mod Edges
