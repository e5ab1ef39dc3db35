-- What the contracts of `ranges` cite.
pub mod Seen
pub mod Carried
