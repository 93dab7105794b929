-- Facts that several proofs of this crate cite.
pub mod Patterns
pub mod Digesting
