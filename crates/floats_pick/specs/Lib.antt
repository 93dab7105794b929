-- Larger, smaller and the magnitude, float functions of document 01.
pub mod Pick
