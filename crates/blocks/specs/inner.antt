-- What only the contracts of inner functions name, and no C function's: nobody need believe it.
pub mod Source
pub mod Ready
pub mod Groups
pub mod Scaled
pub mod Subpel
pub mod Bilinear
pub mod Warp
pub mod Search
pub mod Window
pub mod Order
pub mod Blend
