-- The law of a thin call over a view, and what it asks to know of a formulation.
pub mod Formulation
pub mod Opened
pub mod OverView
