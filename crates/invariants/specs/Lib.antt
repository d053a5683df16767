-- What is claimed beside the rules: what of the memory is in use, what a write leaves at each place, what commands may touch, a law said
-- throughout a run, and what an account may rely on; then worked cases. Assumes nothing.
pub mod InUse
pub mod ByPlace
pub mod RestingOrders
pub mod GivenNumbers
pub mod RunTouches
pub mod Throughout
pub mod Accounts
pub mod AccountsExamples
pub mod QuoteTrades
pub mod FairCommandExamples
