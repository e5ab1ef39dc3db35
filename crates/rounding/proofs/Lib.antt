-- Laws in the shape of the code, over the open width; and what lround has to do with round.
pub mod Shifts
pub mod Carry
pub mod Directions
pub mod Masks
pub mod Count
pub mod AsWhole
