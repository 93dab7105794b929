-- Laws that the proofs of several functions cite, and the crate above.
pub mod PairLaws
pub mod DirectLaws
pub mod SimpleLaws
pub mod OpenLaws
