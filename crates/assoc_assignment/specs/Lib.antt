-- linear_assignment of assoc.rs. Assignment is the definition, in the Rust's order, over the pairs of assoc_matching.
-- Account says what holds of the lists, and Answers what a call says and leaves. That an accepted call has it is proved in proofs/Theorem.
-- Private is only for the contracts between private functions.
pub mod Assignment
pub mod Account
pub mod Answers
pub mod Private
