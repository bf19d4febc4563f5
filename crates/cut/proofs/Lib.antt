-- What the proof of the program's loops cites.
pub mod Run
