-- What the contracts of `vectors` cite.
pub mod Answer
pub mod Line
