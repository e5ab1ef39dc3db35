-- The laws of `frame`.
pub mod Reading
