-- The written definition: what a reader, and the second supplier, have to believe. The files are read in this order, each after those above it.
-- Words in double quotes are document 01's; a name in backquotes is the published Rust's, or one of a definition.
pub mod Lists
pub mod Binary64
pub mod Root
pub mod Elements
pub mod Mapping
pub mod Search
pub mod Mesh
pub mod Choice
pub mod Questions
pub mod Query
pub mod Rows
pub mod Operators
pub mod Job
pub mod Renumbering
