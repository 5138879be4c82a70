-- What holds the definitions: laws, and small rows that the checker computes. The crate `worked` has the long rows.
pub mod Computing
pub mod Written
pub mod Order
pub mod Binary64
pub mod Root
pub mod Search
pub mod Steps
pub mod Distinct
pub mod Choice
pub mod Asking
pub mod Rows
pub mod Lists
pub mod Families
pub mod Passing
pub mod Renumbering
