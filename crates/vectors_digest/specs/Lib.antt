-- What the fixed lists are compared by: docs/ORACLE.md, "Records". Known has worked examples.
pub mod Random
pub mod Floats
pub mod Digest
pub mod Known
