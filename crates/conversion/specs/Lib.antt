-- What the contracts of `conversion` cite.
pub mod Conversion
