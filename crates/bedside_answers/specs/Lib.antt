-- Answers in C's form.
pub mod Lapjv
pub mod Filter
pub mod Pairs
pub mod Frame
pub mod Why
pub mod Forget
pub mod Mot
