-- Theorem proves what specs/Laws.antt states, by the files from Cases to Rising; Returns is for the functions: each return is the definition's case where the tests are as that return found
-- them. Held, that a frame's boxes and labels lie one after the other in lent memory, is for upper layers, as are Cases and Theorem.
pub mod Theorem
pub mod Cases
pub mod Counts
pub mod Frames
pub mod Wide
pub mod Rising
pub mod Held
pub mod Returns
