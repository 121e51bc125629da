-- How matrices are printed, and what their entries stand for; other crates may cite it.
pub mod Prints
pub mod Values
