-- Text has numbers as text, Line the printed lines; Known computes document 01's examples.
pub mod Text
pub mod Line
pub mod Known
