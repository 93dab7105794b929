-- What the proofs of more than one function use. Laws, which other crates cite, has what is read back and the longest lines.
pub mod Spelling
pub mod Placing
pub mod Laws
