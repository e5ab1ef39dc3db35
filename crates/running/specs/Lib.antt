-- What the contracts of `running` cite beside the definitions of `semantics`.
pub mod Answer
pub mod Carried
pub mod Packed
