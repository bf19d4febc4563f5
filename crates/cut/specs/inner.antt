-- What only the contracts of inner functions name: nobody need believe it.
pub mod Tiles
