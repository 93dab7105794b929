-- What the fixed lists are made of: docs/ORACLE.md, "Records" and "The pairing"; what they are compared by is in vectors_digest. Known has worked examples.
pub mod Words
pub mod Line
pub mod Cells
pub mod Held
pub mod Known
