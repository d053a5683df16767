-- The laws that the proofs of this crate apply. Assumes nothing.
pub mod Accounts
pub mod Decisions
pub mod Declared
pub mod Formed
pub mod Margins
pub mod Named
pub mod Outcomes
pub mod Paying
pub mod Puts
pub mod Removals
pub mod Tests
pub mod Traded
