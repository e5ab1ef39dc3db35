-- What the contracts of sums and products cite.
pub mod Arithmetic
