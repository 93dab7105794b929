-- Theorem proves what specs/Laws.antt states, by Cutting; Joining says that the fields with commas between them are the text again. Returns has the cases of the functions that read a field.
pub mod Theorem
pub mod Cutting
pub mod Joining
pub mod Returns
