-- The laws that the proofs of this crate apply. Assumes nothing.
pub mod EarlyStop
pub mod Places
pub mod Pulls
pub mod Queues
pub mod Recorded
pub mod Scans
pub mod Sides
pub mod Trading
pub mod ReadOrders
