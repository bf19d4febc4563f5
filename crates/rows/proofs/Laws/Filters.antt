-- Filter sums.
pub mod Taps
pub mod Centred
pub mod Loop
pub mod Near
pub mod Bilinear
pub mod Scaled
pub mod Warp
