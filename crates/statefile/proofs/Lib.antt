-- That a saved state is read back, and that days joined by its file are one run. Assumes nothing.
pub mod Again
pub mod Continued
pub mod Fields
pub mod Lists
pub mod Loaded
pub mod Opened
pub mod Promises
pub mod Reading
pub mod Rows
pub mod Savable
