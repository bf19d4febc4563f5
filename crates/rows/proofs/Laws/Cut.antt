-- Demand 3, of the pixel rules.
pub mod Cut
pub mod Kernel
pub mod Local
