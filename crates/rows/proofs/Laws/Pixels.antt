-- Pixels: combining, clips, edges.
pub mod Combine
pub mod Pixel
pub mod Values
pub mod Edge
