-- The lemmas on bits, lists and sets; other crates may cite them.
pub mod Digits
pub mod Kept
pub mod Members
pub mod Through
