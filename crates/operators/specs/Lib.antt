-- The words of this crate's contracts.
pub mod Values
