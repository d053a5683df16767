-- The laws that the proofs of this crate apply. Assumes nothing.
pub mod Entries
pub mod Turns
