-- Bilinear.
pub mod Ready
pub mod Answers
pub mod Rule
pub mod Places
pub mod Shown
pub mod Both
