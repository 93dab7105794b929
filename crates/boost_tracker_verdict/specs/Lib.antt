-- What turns a frame down. Boxes, Sound and Verdict are the definitions, Ready says what an accepted frame knows, and Known computes examples; Private is only for the contracts between private functions.
-- The proofs are in proofs/.
pub mod Boxes
pub mod Sound
pub mod Verdict
pub mod Ready
pub mod Private
pub mod Known
