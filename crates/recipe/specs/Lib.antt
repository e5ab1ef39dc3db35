-- What a recipe's text is read to, in document 01's order.
pub mod Table
pub mod Text
pub mod Packed
pub mod Answer
pub mod Fault
