-- What is wrong with a line that is turned away: change request N1. Form is what is wrong with a field's form, Value with a value, and Line puts them in their order. Laws states that a field has
-- a fault exactly where it is not of its form, and a line exactly where a call turns it away, by the same number; proofs/Theorem.antt proves it. Known computes examples.
pub mod Form
pub mod Value
pub mod Line
pub mod Laws
pub mod Known
