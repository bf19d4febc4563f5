-- avg, w_avg and mask.
pub mod Ready
pub mod Answers
pub mod Calls
pub mod Numbers
pub mod Places
