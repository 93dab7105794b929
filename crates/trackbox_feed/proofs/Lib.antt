-- Theorem proves what specs/Laws.antt states, by Texts and Ahead. The others are what the proofs of the functions cite: lines one after the other, the output of a frame read back, and each return
-- of a frame and of a call.
pub mod Theorem
pub mod Texts
pub mod Ahead
pub mod LineLaws
pub mod OutputLaws
pub mod FrameLaws
pub mod CallLaws
