-- The laws that the proofs of this crate apply. Assumes nothing.
pub mod Answering
pub mod Brokering
pub mod Days
pub mod Paid
pub mod Refusing
pub mod Sections
