-- Document 02, N7, its second half; the first is Account of assoc. History says what a history of frames and drops is and which ids its events give and retire, and Balance what holds after each.
-- Calls and Night are what it has to do with the code: calls of `update` and of `forget_set` in a row are a history, and so are the frames that trackbox works.
-- proofs/Theorem.antt proves what Balance, Calls and Night state.
pub mod History
pub mod Balance
pub mod Calls
pub mod Night
