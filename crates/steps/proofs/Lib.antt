-- The laws of `steps`.
pub mod Compare
