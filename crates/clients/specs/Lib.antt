-- One account's clients (document 02, ticket 9), and the parts of their day that the contracts cite. Assumes nothing.
pub mod Clients
pub mod Parts
