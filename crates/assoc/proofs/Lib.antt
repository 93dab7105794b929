-- What holds of an accepted call is in Theorem, and that equal labels change nothing in UnlabelledLaws. The other files are laws that the proofs of several functions cite.
pub mod AssociationLaws
pub mod EndLaws
pub mod UnlabelledLaws
pub mod Theorem
