-- What the contracts of the C functions tell their callers.
pub mod Told
