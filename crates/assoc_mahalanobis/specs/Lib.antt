-- The similarity by distances of assoc.rs. Private is only for the contracts between private functions.
pub mod Mahalanobis
pub mod Private
