-- Laws of remainder and remquo: first those in the shape of the code, over the open width, then what a user would state.
pub mod Cases
pub mod Exact
pub mod Divisions
pub mod Halves
pub mod Signs
pub mod Only
pub mod Laws
