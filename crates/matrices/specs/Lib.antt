pub mod FaultMatrices
pub mod Polynomials
pub mod Values
-- that the laws of a scale hold, for the impls to name
pub mod FaultMatricesLemmas
pub mod PolynomialsLemmas
pub mod Series
