-- A line of MOTChallenge detection text as a box record: change request N1. Line says which lines are of the form and what box each means, Call what a call answers and writes. Detection says the
-- same lines from the other side, as they are written down; Laws states that both agree, and what 52 has to do with document 01's 42 and 43, and proofs/Theorem.antt proves it. Known computes examples, and
-- Private is what private functions hand one another.
pub mod Line
pub mod Call
pub mod Detection
pub mod Laws
pub mod Known
pub mod Private
