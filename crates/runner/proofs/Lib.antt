-- The laws that the proofs of this crate apply. Assumes nothing.
pub mod Opened
pub mod Playing
pub mod ReadEnough
pub mod Recorded
pub mod Responded
pub mod Tables
pub mod WholeOutput
