-- Laws of the calls, which others may cite.
pub mod Pairs
