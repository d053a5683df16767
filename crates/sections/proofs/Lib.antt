-- The laws of rows and of what accounts hold. Assumes nothing.
pub mod Held
pub mod Rows
