-- Laws in the shape of the code.
pub mod Written
pub mod Sheets
