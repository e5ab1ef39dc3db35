-- Laws of sums and products: what a sheet needs, what a user would state, and that they are the language's own operations.
pub mod Signs
pub mod Laws
pub mod Nearest
pub mod Identities
pub mod Language
