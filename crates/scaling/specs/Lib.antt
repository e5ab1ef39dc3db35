-- What the contracts of frexp and ldexp cite.
pub mod Scaling
pub mod Position
