pub mod Cabinets
pub mod CellLists
pub mod Parts
