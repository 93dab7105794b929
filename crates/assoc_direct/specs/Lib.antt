-- The direct path of match_detections. Simple is the definition, in the Rust's order, Rows the same pairs with a track for each box, and Direct what a call says and leaves. Private is only for the contracts between private functions.
pub mod Simple
pub mod Direct
pub mod Rows
pub mod Private
