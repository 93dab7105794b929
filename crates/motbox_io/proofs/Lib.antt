-- Theorem proves what specs/Printed.antt states: Steps and Taking have the steps of a turn, FirstLine the lines of a text and Converting what one adds to the records. Buffers has what the functions
pub mod Buffers
pub mod TurnLaws
pub mod FirstLine
pub mod Converting
pub mod Along
pub mod Steps
pub mod Taking
pub mod Theorem
