-- Laws that the proofs of `vectors` share.
pub mod Answers
pub mod Lines
