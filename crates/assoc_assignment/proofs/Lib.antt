-- What holds of an accepted call is in Theorem. The other files are laws that the proofs of several functions cite.
pub mod AccountLaws
pub mod MarkLaws
pub mod ListLaws
pub mod AnswerLaws
pub mod EndLaws
pub mod Theorem
