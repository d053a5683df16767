-- The laws that the proofs of this crate apply. Assumes nothing.
pub mod Chosen
pub mod Counting
pub mod Filling
pub mod Levels
pub mod Turns
