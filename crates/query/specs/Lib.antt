-- How much could I get (document 02, ticket 3), and worked cases. Assumes nothing.
pub mod Gettable
pub mod GettableExamples
