-- Document 01's marked cases, over the definitions of every function of the library.
pub mod Marked
