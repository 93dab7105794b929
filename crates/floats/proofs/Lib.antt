-- Theorem proves what specs/Laws.antt states, by the files from Division to Unsigned; the others are what the proofs of more than one function use.
pub mod Theorem
pub mod Division
pub mod Digits
pub mod Fields
pub mod Roots
pub mod Squares
pub mod Nearest
pub mod Series
pub mod Unsigned
pub mod Signs
pub mod Pack
pub mod Rounding
pub mod Exponent
