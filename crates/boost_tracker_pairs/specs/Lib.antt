-- Steps 1 to 5 of a frame. Pairs says what a call answers and leaves; Private is only for the contracts between private functions.
pub mod Pairs
pub mod Private
