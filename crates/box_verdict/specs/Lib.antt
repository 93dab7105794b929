-- The values of a box.
pub mod Box
