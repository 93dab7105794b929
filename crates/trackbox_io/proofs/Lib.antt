-- Waiting proves what specs/Laws.antt states of a turn; Theorem what specs/Printed.antt states of a run, by BufferRecords, CallAnswers, Filling and Handing, a step of a turn each.
-- ProgressLaws and TurnLaws are what the proofs of the functions cite.
pub mod Waiting
pub mod BufferRecords
pub mod CallAnswers
pub mod Filling
pub mod Handing
pub mod Theorem
pub mod ProgressLaws
pub mod TurnLaws
