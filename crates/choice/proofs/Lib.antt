-- Laws that the proofs share: of the first minimum, and of what the searches find on each element.
pub mod Choosing
pub mod Places
