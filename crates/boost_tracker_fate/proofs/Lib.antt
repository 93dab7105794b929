-- Laws that the proofs of several functions, and those of the crate above, cite.
pub mod PlaceLaws
pub mod LotCases
