-- The laws that the proofs of this crate apply. Assumes nothing.
pub mod Started
pub mod Trades
pub mod Turns
pub mod UsedLegs
