-- The words of this crate's contracts, and of those of the exported calls.
pub mod Numbers
pub mod Exported
