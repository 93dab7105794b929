-- What the proofs of more than one function use: laws on plain numbers, floats and lists. Laws, which other crates cite, has the round trips; Puts also serves the functions that write text.
pub mod Values
pub mod Puts
pub mod Laws
