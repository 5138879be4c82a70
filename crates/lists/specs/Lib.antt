-- The words of the contracts of those who write the values of a point into a list.
pub mod Values
