-- Bundles (document 02, ticket 1), lists with their answers, and a day of calls. Assumes nothing.
pub mod Answered
pub mod Bundle
pub mod Calls
pub mod BundleExamples
