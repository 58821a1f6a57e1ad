-- Every transducer (snesl, specs/Transducers.antt) makes exactly what the paper's general and block rules give.
pub mod Loops
pub mod Itemwise
pub mod Segmentwise
pub mod Exactly
