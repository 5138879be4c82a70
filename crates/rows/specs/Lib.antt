-- The values of a point in the order of its triplets.
pub mod Values
