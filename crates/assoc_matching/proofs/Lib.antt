-- Where the direct path is taken and what holds of an accepted call is in Theorem. The other files are laws that the proofs of several functions cite.
pub mod SquareLaws
pub mod MatchLaws
pub mod PartnerLaws
pub mod OneAboveLaws
pub mod AccountLaws
pub mod AnswerLaws
pub mod EndLaws
pub mod Theorem
