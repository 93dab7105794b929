-- Theorem proves what specs/Laws.antt states, by Rounded of a fraction and Reading of a text. Quotient is the fraction as the code divides it, and Forms the digits as it reads them.
pub mod Theorem
pub mod Rounded
pub mod Reading
pub mod Index
pub mod Quotient
pub mod Powers
pub mod Forms
pub mod Returns
