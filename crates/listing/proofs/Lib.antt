-- What the proofs of several functions cite, and what a caller cites: texts put one after the other, and how long a line is.
pub mod Pages
mod Numbers
pub mod Lengths
