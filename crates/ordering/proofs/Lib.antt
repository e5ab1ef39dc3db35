-- Laws over the open width: the tests of the order by ranks, and of the order with -0 before +0 by keys; then what a user would state of fmin
-- and fmax, and of nextafter and its refusal.
pub mod Ranks
pub mod Firsts
pub mod MinMax
pub mod Lattice
pub mod Steps
pub mod Neighbours
pub mod Refusals
