-- A number of MOTChallenge text: change request N1. Number is the definition: which texts are numbers, what fraction each means, and the f32 of it. Numeral says the same texts from the other
-- side, as they are written down. Laws states that both agree, that the f32 is the nearest, and what follows for users; proofs/Theorem.antt proves it. Known computes examples, and Private is
-- what private functions hand one another. Index says where a byte first stands in a text.
pub mod Index
pub mod Number
pub mod Numeral
pub mod Laws
pub mod Known
pub mod Private
