-- RowLaws has what the proofs of several functions cite.
pub mod RowLaws
