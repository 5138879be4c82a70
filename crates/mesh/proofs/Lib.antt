-- Laws that the proofs share, and that other crates may cite.
pub mod Rows
pub mod Gathering
pub mod Counting
mod Scanning
