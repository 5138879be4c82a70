-- The words of this crate's contracts.
pub mod Filled
-- And a query's parameters as the definition's records, for callers that hold its lists apart.
pub mod Query
