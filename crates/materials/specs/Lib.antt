-- The words of this crate's contracts.
pub mod Products
pub mod Sixteen
pub mod Given
