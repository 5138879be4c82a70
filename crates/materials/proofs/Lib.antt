-- Laws that the proofs share, and that other crates may cite.
mod Filled
pub mod Writing
pub mod Products
pub mod Sixteen
mod Turning
