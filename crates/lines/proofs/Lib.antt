-- The laws that the proofs of this crate apply. Assumes nothing.
pub mod Text
pub mod Turns
pub mod Value
