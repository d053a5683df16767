-- The laws that the proofs of this crate apply. Assumes nothing.
pub mod AddUp
pub mod Posted
pub mod PostedTrades
pub mod Postings
pub mod StartLots
pub mod Totals
