-- put and prep.
pub mod Ready
pub mod Answers
pub mod Places
