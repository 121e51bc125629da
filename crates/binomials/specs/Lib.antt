pub mod Binomials
