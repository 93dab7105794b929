-- Theorem proves what specs/Whole.antt, specs/Cap.antt and specs/Unlabelled.antt state; FrameLaws has the laws that the proofs of several functions cite, CapLaws what the theorem on the setting cap_confidence rests on,
-- UnlabelledLaws what that on equal labels does.
pub mod FrameLaws
pub mod CapLaws
pub mod UnlabelledLaws
pub mod Theorem
