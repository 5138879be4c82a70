-- What the exact cases rest on, with no word of elements: integers, and floats that are integers over a power of two. Assumes nothing.
pub mod Integers
pub mod Dyadic
