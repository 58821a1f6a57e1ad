-- What these transducers share: streams of one item for each unit, and the exact sum of two items.
pub mod Lengths
pub mod Pairs
