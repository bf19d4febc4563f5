-- Warp, and its model.
pub mod Corners
pub mod Ready
pub mod Passes
pub mod Shown
pub mod Answers
pub mod Shears
pub mod Places
