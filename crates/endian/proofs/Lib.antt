-- The laws that the proofs of this crate apply. Assumes nothing.
pub mod Numbers
pub mod Signs
pub mod Writes
