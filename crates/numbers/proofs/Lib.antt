-- A theorem of the numbers, and when an exported call keeps its promise.
pub mod Told
pub mod Kept
