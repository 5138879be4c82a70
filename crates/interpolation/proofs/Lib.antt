-- What the proofs share.
mod Written
