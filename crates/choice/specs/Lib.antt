-- The words of this crate's contracts.
pub mod Nodes
pub mod Nearest
