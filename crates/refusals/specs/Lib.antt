-- The refusals of the pairing routines: their numbers, in which order they are looked for, and what a call that may be refused leaves.
pub mod Refusal
