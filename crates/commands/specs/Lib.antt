-- What the functions of this crate give back, for their contracts. Assumes nothing.
pub mod Accounts
