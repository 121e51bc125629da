pub mod Agreement
pub mod Groups
pub mod Method
