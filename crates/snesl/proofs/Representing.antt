-- Values as streams and back.
pub mod Elements
pub mod Segments
pub mod Trees
pub mod Representation
pub mod StreamRows
