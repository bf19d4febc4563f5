-- What the program answers, and what the contracts of its inner functions name.
pub mod Answer
pub mod inner
