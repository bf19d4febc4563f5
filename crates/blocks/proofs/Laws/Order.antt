-- Prediction orders.
pub mod Kinds
pub mod Ready
pub mod Run
pub mod Answers
pub mod Places
pub mod Called
