-- The definitions that the crates share, each with its laws. Assumes nothing.
pub mod Bound
pub mod Chains
pub mod Choice
pub mod Lists
pub mod Logic
pub mod Numbers
pub mod Ring
pub mod Sums
pub mod Tabulate
pub mod Tests
pub mod Written
