-- The laws that the proofs of this crate apply. Assumes nothing.
mod Cancels
mod Runs
