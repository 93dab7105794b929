-- What a call answers and leaves. What the assignment itself is, and its theorems: crates/lapjv_definition.
pub mod Answers
