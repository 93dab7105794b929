-- trackbox on its input. Stream is the definition, from document 01: what is done with a list of records, and what is printed. Rules and Boxes are what the code does with one record;
-- Feeding gives it one record after another, and Laws states that this is the definition, and that no count grows too large. Known computes examples.
-- The proofs are in proofs/.
pub mod Stream
pub mod Rules
pub mod Boxes
pub mod Feeding
pub mod Laws
pub mod Known
