-- What the contracts of remainder and remquo cite.
pub mod Nearest
pub mod Shape
