-- What the contracts of `reader` cite beside the definitions of `recipe`.
pub mod Checks
