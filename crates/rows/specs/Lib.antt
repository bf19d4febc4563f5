-- Document 01's arithmetic, in its order. A reader who believes these files and the kit can believe the contracts.
pub mod Numbers
pub mod Depth
pub mod Places
pub mod Copy
pub mod Combine
pub mod Edge
pub mod Subpel
pub mod Bilinear
pub mod Scaled
pub mod WMask
pub mod Search
pub mod Warp
pub mod Shear
pub mod Cut
pub mod Worked
pub mod inner
