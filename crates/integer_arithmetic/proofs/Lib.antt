-- The laws that the functions of this crate cite, from the bottom up.
pub mod Standing
pub mod Packing
pub mod Sums
pub mod Products
pub mod Words
