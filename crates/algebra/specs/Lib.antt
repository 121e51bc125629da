pub mod Laws
pub mod Prints
pub mod Sums
