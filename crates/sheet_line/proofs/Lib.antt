-- The laws of `sheet_line`.
pub mod Line
