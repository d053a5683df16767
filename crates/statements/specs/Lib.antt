-- A client statement (document 02, ticket 9), worked cases, and the parts that the contracts cite. Assumes nothing.
pub mod Parts
pub mod Statement
pub mod StatementExamples
