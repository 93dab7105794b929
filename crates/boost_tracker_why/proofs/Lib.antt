-- Laws that the proofs of several functions and the theorem cite.
pub mod GivenLaws
pub mod LotLaws
pub mod ToldLaws
pub mod WhyLaws
pub mod FateLaws
pub mod Theorem
