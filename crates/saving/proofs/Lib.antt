-- The laws that the proofs of this crate apply. Assumes nothing.
pub mod AddedUp
pub mod Loads
pub mod Lying
pub mod Placed
pub mod Sections
pub mod Shapes
pub mod Writes
