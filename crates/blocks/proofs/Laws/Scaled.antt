-- A reference of another size (E1).
pub mod Ready
pub mod Places
pub mod Rows
pub mod Lines
pub mod Pairs
pub mod Turns
pub mod Rule
pub mod Answers
pub mod Stands
