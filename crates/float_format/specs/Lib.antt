-- What every contract cites, in document 01's order.
pub mod Format
pub mod Number
pub mod Width
pub mod Rounding
pub mod Widths
pub mod Refusals
