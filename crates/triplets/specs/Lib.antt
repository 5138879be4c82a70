-- The words of this crate's contracts, and of those of the operators.
pub mod Strip
pub mod Lent
