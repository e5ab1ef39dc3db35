-- What the contracts of nextafter, fmin and fmax cite; `Shape` is for private functions alone.
pub mod Ordering
pub mod Shape
