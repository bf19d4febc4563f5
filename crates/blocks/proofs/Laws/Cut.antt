-- Demand 3: a block cut into rectangles.
pub mod Local
pub mod Calls
pub mod Demand
pub mod Runs
pub mod Places
pub mod CFunctions
pub mod Holds
pub mod Witness
