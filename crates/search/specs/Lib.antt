-- The words of this crate's contracts.
pub mod Steps
pub mod Places
