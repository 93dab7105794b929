-- Which tracks a frame puts out, and what is written of them: Record and Emission are the definitions, Known computes examples.
pub mod Record
pub mod Emission
pub mod Known
