-- The laws that the proofs of this crate apply. Assumes nothing.
pub mod Undo
pub mod Marking
pub mod Placing
pub mod Resting
