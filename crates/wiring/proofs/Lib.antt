pub mod Closure
pub mod Codes
pub mod Grown
pub mod RowEdits
pub mod Rows
pub mod Restricted
