-- The words of this crate's contracts: what a lent output holds after a text was put into it, also where it has no room, and the answer of a point as a query's lists hold it.
pub mod Page
pub mod Answers
