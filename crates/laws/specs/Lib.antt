-- What the long theorems state. Words in double quotes are document 01's.
pub mod ExactCases
