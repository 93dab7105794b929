-- CostLaws has what the proofs here and those of the matrix cite.
pub mod CostLaws
