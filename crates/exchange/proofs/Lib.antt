-- The laws that the proofs of this crate apply. Assumes nothing.
pub mod Decided
pub mod Responses
pub mod Runs
