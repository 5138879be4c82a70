-- The long theorems over the definition.
pub mod Exact
pub mod ExactCases
