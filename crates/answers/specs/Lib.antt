-- What storing a point's answer makes of the lent lists.
pub mod Stored
pub mod Lent
