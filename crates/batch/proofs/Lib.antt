-- The laws of `batch`.
pub mod Calls
