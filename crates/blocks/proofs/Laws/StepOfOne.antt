-- A reference of another size at a step of one pixel: the kernels without a scale.
pub mod Positions
pub mod Eight
pub mod Same
