-- One digit more, read or written, the laws of fields, and lines written a part at a time.
pub mod Digits
pub mod Laws
pub mod Parts
