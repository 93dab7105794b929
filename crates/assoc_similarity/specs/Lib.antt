-- The matrices of assoc.rs. Sizes says when a call is accepted; Overlap, Shape and Mahalanobis are the Rust's matrices.
pub mod Sizes
pub mod Overlap
pub mod Shape
pub mod Mahalanobis
