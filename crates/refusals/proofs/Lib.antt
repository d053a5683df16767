-- The laws that the proofs of this crate apply. Assumes nothing.
pub mod Affording
pub mod Arrivals
pub mod Inserting
pub mod Sides
pub mod Reentering
pub mod Continuous
