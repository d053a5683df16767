-- What the functions of this crate ask for and give back, for their contracts. Assumes nothing.
pub mod EarlyStop
pub mod Places
pub mod Removal
pub mod Trading
