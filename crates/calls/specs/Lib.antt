-- What the contracts of `calls` cite beside the definitions of `semantics`.
pub mod Numbers
