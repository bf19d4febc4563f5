-- What only the contracts of inner functions name, and no C function's: nobody need believe it.
pub mod words
pub mod bytes
pub mod Scaled
pub mod Subpel
pub mod Warp
pub mod Combine
pub mod Bilinear
pub mod Depth
