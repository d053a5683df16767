-- The laws that the proofs of this crate apply. Assumes nothing.
pub mod Counts
pub mod Filled
pub mod Opened
pub mod Places
pub mod Start
pub mod WellFormed
