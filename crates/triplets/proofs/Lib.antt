-- What holds of triplets put one after the other.
pub mod Strips
pub mod Putting
