-- The fields of a line of MOTChallenge text: change request N1. Fields is the definition: what stands between the commas, and what forms it has. Reading is one field from the front, as the
-- code reads it, and Laws states how that makes up all fields; proofs/Theorem.antt proves it. Known computes examples.
pub mod Fields
pub mod Reading
pub mod Laws
pub mod Known
