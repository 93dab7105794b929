-- Laws that the proofs of several functions cite.
pub mod GatherLaws
pub mod BoostLaws
pub mod RetainLaws
pub mod PairLaws
pub mod EndLaws
