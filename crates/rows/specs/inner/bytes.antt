pub mod Pixel
pub mod Sums
