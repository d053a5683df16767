-- The laws of the definitions in specs/, for the functions of this crate and for their callers. Assumes nothing.
pub mod Changes
pub mod Lists
pub mod Measures
pub mod Moves
pub mod Records
