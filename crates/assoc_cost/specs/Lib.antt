-- The cost of a box and a track, and the matrix of them. Private is only for the contracts between private functions.
pub mod Cost
pub mod Private
