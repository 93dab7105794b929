-- Laws is what the proofs of the programs cite.
pub mod Laws
