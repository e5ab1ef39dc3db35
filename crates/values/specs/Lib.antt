-- What the contracts of `values` cite.
pub mod Seen
pub mod Carried
