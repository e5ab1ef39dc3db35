-- Laws of products modulo a number, in the shape of the code. Plain arithmetic; no format here.
pub mod Residues
pub mod Estimates
pub mod Powers
