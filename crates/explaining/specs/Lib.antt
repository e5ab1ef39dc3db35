-- What the contracts of `explaining` cite beside the definitions of `semantics`.
pub mod Answer
pub mod Packed
pub mod Reasons
