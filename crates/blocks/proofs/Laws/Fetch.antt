-- Demand 3 of callers who fetch by one call and predict by another.
pub mod Calls
pub mod Kernels
pub mod CFunctions
pub mod Witness
