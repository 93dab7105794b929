-- Why a box has no track. Why is the definition, over the frame's own; Known computes examples; Facts says that the cause named is what the frame does with that box; Answers says what a call answers and leaves.
-- Private is only for the contracts between private functions.
pub mod Why
pub mod Answers
pub mod Facts
pub mod Known
pub mod Private
