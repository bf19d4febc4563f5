-- Demand 3 at work on a plane of four different pixels: calls of the C functions that meet its premises, with what they leave; a run with one rectangle a column
-- off; and premises without which it would be false.
pub mod Four
pub mod Plane
pub mod Cases
pub mod Put
pub mod Prep
pub mod Off
pub mod Needed
