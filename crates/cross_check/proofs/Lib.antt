-- What the guards of the float bodies cite; the laws of the operations stand in arithmetic.
pub mod Finite
