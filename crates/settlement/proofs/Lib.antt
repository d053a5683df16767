-- The laws that the proofs of this crate apply. Assumes nothing.
pub mod Places
pub mod Clearing
pub mod Totals
pub mod Dues
pub mod Carrying
pub mod Formed
pub mod Report
pub mod Outcome
