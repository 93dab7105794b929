-- What the proofs of the functions cite.
pub mod AskLaws
pub mod SayLaws
