-- The laws that the proofs of this crate apply. Assumes nothing.
pub mod Trading
pub mod Quoting
pub mod FirstIn
pub mod Legs
pub mod Slots
pub mod Passes
pub mod Gains
