-- Theorem proves what specs/Laws.antt states, by Texts of a line that is written. Reaching goes through a line field by field, Lines has the returns of the functions that do, and Answers those of a call.
pub mod Theorem
pub mod Texts
pub mod Reaching
pub mod Lines
pub mod Answers
