-- The words of the contracts of those who build a call.
pub mod Flat
