pub mod Calls
pub mod CellsOf
pub mod Linking
pub mod Listing
pub mod Weighed
