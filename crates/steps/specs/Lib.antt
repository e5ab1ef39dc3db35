-- What the contracts of `steps` cite beside the definitions of `recipe`.
pub mod Order
