-- The laws of `sheets`.
pub mod Showing
pub mod Marking
pub mod SheetCalls
