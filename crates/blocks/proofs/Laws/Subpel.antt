-- 8-tap.
pub mod Choice
pub mod Ready
pub mod Lines
pub mod Turned
pub mod Cases
pub mod Answers
pub mod Places
pub mod Both
