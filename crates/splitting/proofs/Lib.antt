-- Laws in the shape of the code, over the open width, and what a user would state.
pub mod Fraction
pub mod Laws
pub mod Carried
