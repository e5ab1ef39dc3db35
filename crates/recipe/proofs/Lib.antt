-- The laws of `recipe`.
pub mod Counts
pub mod Rows
pub mod Formed
pub mod Packed
pub mod Laws
pub mod Checks
pub mod Examples
