-- What the bytes of client statements and of saved states share. Assumes nothing.
pub mod Sections
