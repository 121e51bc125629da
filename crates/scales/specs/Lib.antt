pub mod Bounded
pub mod Counts
pub mod Remainders
pub mod Durations
-- that the laws of a scale hold, for the impls to name
pub mod CountsLemmas
pub mod RemaindersLemmas
pub mod BoundedLemmas
pub mod DurationsLemmas
