-- Laws has what upper layers want; the others are what the proofs of several functions cite.
pub mod Laws
pub mod Verdicts
pub mod MhLaws
