-- Frames, windows and rows.
pub mod Ready
pub mod Holds
pub mod Rows
pub mod Answers
pub mod OddPictures
pub mod Places
pub mod Predict
pub mod Suffices
pub mod Modes
