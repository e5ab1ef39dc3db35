-- What the contracts of modf cite.
pub mod Splitting
pub mod Answer
