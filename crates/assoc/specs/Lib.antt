-- The pairing of assoc.rs. Association is the definition with labels, over the matrices of assoc_similarity and assoc_cost and the pairs of assoc_assignment;
-- Unlabelled is the definition without them, and what joins the two; Known computes examples; Answers says what a call says and leaves; Account states that every box and every track is accounted for in what it leaves.
-- Private is only for the contracts between private functions.
pub mod Association
pub mod Unlabelled
pub mod Known
pub mod Answers
pub mod Account
pub mod Private
