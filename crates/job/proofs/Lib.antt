-- What the proofs of a job cite: the answers of its query, the length of a listing, how much of a file decides it.
pub mod Answers
pub mod Longest
pub mod Prefix
pub mod Promised
