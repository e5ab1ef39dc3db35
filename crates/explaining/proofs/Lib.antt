-- The laws of `explaining`.
pub mod Reasons
pub mod Calls
