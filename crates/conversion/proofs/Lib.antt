-- Laws of taking a pattern to another format, and of halves; and the table's.
pub mod Lookup
pub mod Conversion
pub mod Once
pub mod Nans
pub mod Wider
pub mod Laws
pub mod Steps
pub mod Narrowed
