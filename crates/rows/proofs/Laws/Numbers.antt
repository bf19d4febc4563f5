-- Signed numbers and their bits, cuts and sums.
pub mod Signed
pub mod Low
pub mod Depth
pub mod Sum
pub mod Added
