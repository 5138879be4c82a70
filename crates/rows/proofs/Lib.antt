-- Laws that the proofs share, and that other crates may cite.
pub mod Strain
pub mod Gathered
