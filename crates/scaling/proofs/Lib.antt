-- Laws over the open width, and in the shape of the code.
pub mod Exponents
pub mod Classes
pub mod Significands
pub mod Places
pub mod Fractions
pub mod Laws
