-- The laws that the proofs of this crate apply. Assumes nothing.
pub mod Clauses
pub mod FieldLists
pub mod Iterated
pub mod Limits
pub mod MarkedOrders
pub mod Remainders
pub mod Replaying
pub mod RestingSums
pub mod Rooms
pub mod SortedQueues
pub mod TestedTrades
pub mod UsedAccounts
pub mod Walked
pub mod Walks
pub mod Whole
