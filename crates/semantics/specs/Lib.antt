-- What the contracts of `semantics` cite.
pub mod Value
pub mod Frame
pub mod Run
pub mod Range
pub mod Mark
pub mod Sheet
pub mod Shown
pub mod Cause
pub mod Explain
pub mod Promise
