-- What the run program has read, as a stream holds it.
pub mod Held
