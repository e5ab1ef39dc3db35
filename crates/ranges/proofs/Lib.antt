-- The laws of `ranges`.
pub mod Rules
pub mod Rulings
pub mod Folding
pub mod Covering
