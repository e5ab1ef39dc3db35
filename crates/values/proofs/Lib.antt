-- The laws of `values`.
pub mod Floats
pub mod Wholes
