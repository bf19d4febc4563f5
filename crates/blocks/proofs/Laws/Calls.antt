-- Calls: refusals, their order, limits, answers.
pub mod Refuse
pub mod InOrder
pub mod Lowest
pub mod Limits
pub mod Answer
pub mod Ready
pub mod Told
pub mod Given
pub mod Why
