-- When a call of associate is turned down, and what holds of one that is not.
pub mod Verdict
