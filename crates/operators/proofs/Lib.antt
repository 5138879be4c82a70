-- What holds of the triplets of an operator, and of an operator's promise.
mod Numbers
pub mod Filling
pub mod Promised
