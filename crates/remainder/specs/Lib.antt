-- What the contracts of fmod cite.
pub mod Remainder
pub mod Shape
