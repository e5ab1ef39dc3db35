-- What the contracts of products modulo a number cite.
pub mod Modulus
