-- What is known of a parameter's type; straight code over locals; a thin call.
pub mod Known
pub mod Straight
pub mod Thin
