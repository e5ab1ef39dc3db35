-- The laws of `reader`.
mod Fields
mod Steps
mod Known
mod Reading
pub mod Laws
