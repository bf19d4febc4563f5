-- sad_nxn and sad_refine_mv.
pub mod Ready
pub mod Answers
pub mod Places
