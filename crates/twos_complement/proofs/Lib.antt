-- Laws of signed numbers and their words.
pub mod Minus
pub mod Signs
