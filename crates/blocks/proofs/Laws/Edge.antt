-- emu_edge.
pub mod Ready
pub mod Answers
pub mod Places
pub mod Predict
