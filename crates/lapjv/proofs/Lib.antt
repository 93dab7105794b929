-- The laws behind the proofs of `verdict_of` and `lapjv`. Those of the two halves are in crates/lapjv_definition.
pub mod AnswerLaws
