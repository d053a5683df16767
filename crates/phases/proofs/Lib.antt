-- The laws that the proofs of this crate apply. Assumes nothing.
pub mod Changes
pub mod Uncrossing
