-- The words of this crate's contracts.
pub mod Query
pub mod Job
