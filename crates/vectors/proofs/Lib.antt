-- Facts that several proofs of this crate cite; Lending is a law for programs that lend parts of arrays.
pub mod Drawing
pub mod Parts
pub mod Printing
pub mod Reading
pub mod Lending
