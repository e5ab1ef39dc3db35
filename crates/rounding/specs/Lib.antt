-- What the contracts of the roundings cite beside the definitions of `float_format`.
pub mod Shape
pub mod Answer
