-- Rows that hold the definition and take longer: document 01's worked table, values of the published Rust, steps at each bound, a whole choice, the operators' questions, an instance of demand 3.
pub mod Worked
pub mod Published
pub mod Steps
pub mod Choice
pub mod Operators
pub mod Instance
