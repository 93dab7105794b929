-- Steps 6 and 7 of a frame: Corrections says when they are done, and what that means.
pub mod Corrections
