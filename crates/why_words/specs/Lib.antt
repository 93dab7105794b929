-- What the program why prints of a box. Words is the definition; Known computes examples of it; Private is only for the contracts between private functions.
pub mod Words
pub mod Known
pub mod Private
