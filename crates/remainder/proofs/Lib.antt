-- Laws of fmod: first those in the shape of the code, over the open width, then what a user would state.
pub mod Estimate
pub mod Turn
pub mod Split
pub mod Cases
pub mod Exact
pub mod Laws
