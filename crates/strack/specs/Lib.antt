-- Boxes and a track. Rect, Object and Strack are the definitions, a file for each module of the Rust.
-- Known computes document 01's examples of the filter and the confidence. What callers need of a track is in proofs/Laws.antt.
pub mod Rect
pub mod Object
pub mod Strack
pub mod Known
