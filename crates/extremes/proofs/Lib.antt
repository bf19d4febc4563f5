-- What the proof of a run cites.
mod Warp
