-- Rows, places and blocks.
pub mod Row
pub mod Part
pub mod Over
pub mod Places
pub mod Fill
pub mod Ends
