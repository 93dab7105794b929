-- A frame of the tracker. Update is the definition, from the Rust, with labels; Unlabelled is the frame without them, and what joins the two; Facts says what holds of an accepted frame, and Known computes an example.
-- Plain has some steps in plainer words, which the code follows. The proofs are in proofs/.
pub mod Update
pub mod Unlabelled
pub mod Facts
pub mod Known
pub mod Plain
