-- Laws that the proofs share, and that other crates may cite.
pub mod Parts
pub mod Values
