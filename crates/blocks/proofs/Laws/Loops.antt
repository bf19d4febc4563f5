-- Loops over the rows of a block.
pub mod Rows
pub mod Stands
pub mod Gapless
pub mod Groups
pub mod ByEight
pub mod InPlace
pub mod Places
pub mod Shown
