-- Laws, by what they are about: numbers, places and blocks, then document 01's families.
pub mod Numbers
pub mod Blocks
pub mod Filters
pub mod Cut
pub mod Pixels
pub mod Worked
