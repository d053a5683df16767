-- What the words of an area mean, and what the moves of this crate do to them. Assumes nothing.
pub mod Lists
pub mod Moves
pub mod Records
