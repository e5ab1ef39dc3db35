-- What the contracts of `frame` cite.
pub mod Stages
