-- What the contracts of `sheets` cite beside the definitions of `semantics`.
pub mod Answer
pub mod Packed
