-- Laws that the proofs share, and that other crates may cite: `Prefix` says how much of a file decides its answer.
mod Numbers
mod Marks
mod Turns
mod Reached
mod Agreeing
mod Spending
pub mod Prefix
