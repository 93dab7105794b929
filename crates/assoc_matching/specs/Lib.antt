-- The pairs of assoc.rs from a matrix of costs. Matching is the definition, in the Rust's order, and Partners the same pairs with a track for each box.
-- Direct is where the direct path is taken; the path by itself is in assoc_direct, whose names Matching, Partners and Direct pass on. Account says what holds of the pairs, and Answers what a call says and leaves.
-- That the path is taken there and that an accepted call has it is proved in proofs/Theorem. Private is only for the contracts between private functions.
pub mod Matching
pub mod Partners
pub mod Direct
pub mod Account
pub mod Answers
pub mod Private
