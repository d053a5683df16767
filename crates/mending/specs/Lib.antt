-- A mended day file and the list of what it lost (document 02, ticket 11), and worked cases. Assumes nothing.
pub mod Mend
pub mod MendExamples
pub mod Reasons
