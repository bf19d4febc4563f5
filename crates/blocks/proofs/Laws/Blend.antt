-- blend and morph.
pub mod Above
pub mod Ready
pub mod Answers
pub mod Shown
pub mod Places
