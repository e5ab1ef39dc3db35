-- What the contracts of the float bodies cite.
pub mod Finite
