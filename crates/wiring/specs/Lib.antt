pub mod CellSets
pub mod Tables
pub mod Wires
