pub mod Bounds
pub mod Calls
pub mod Cuts
pub mod Endings
pub mod Numbers
pub mod Prints
pub mod Uniform
pub mod Written
