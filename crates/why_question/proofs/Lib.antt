-- DueLaws proves what specs/Laws.antt states; the others are what the proofs of the functions cite.
pub mod DueLaws
pub mod DecideLaws
pub mod NumberLaws
