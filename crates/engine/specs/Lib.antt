-- What the functions of this crate ask for and give back, for their contracts. Assumes nothing.
pub mod Arrival
pub mod Decision
pub mod Market
pub mod Outcome
pub mod Removal
pub mod Sides
