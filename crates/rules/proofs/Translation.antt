-- The translation rules derive, up to the grouping of `;`, exactly the code and the tree of the checked expression.
pub mod Regrouped
pub mod Deterministic
pub mod Derived
