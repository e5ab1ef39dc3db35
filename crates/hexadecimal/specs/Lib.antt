-- What the contracts of `hex` cite.
pub mod Hex
