-- w_mask.
pub mod Weighed
pub mod Ready
pub mod Answers
pub mod Places
