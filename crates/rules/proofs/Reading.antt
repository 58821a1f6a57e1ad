-- Reading (snesl, specs/Records.antt) accepts exactly the bytes that the grammar has, as what they spell.
pub mod Places
pub mod Heads
pub mod Expressions
pub mod Jobs
