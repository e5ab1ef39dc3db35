-- What the contracts of `batch` cite beside the definitions of `programs`.
pub mod Answer
