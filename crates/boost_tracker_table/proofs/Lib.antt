-- Laws and LabelLaws are for callers of the functions on the table, Walks is what the proofs here share. Assumes nothing.
pub mod Laws
pub mod LabelLaws
pub mod Walks
