pub mod Chosen
pub mod Gathered
pub mod Grouped
pub mod Weighed
