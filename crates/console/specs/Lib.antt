pub mod Consoles
pub mod Held
pub mod Replies
pub mod Requests
pub mod Splits
pub mod Totals
