-- The labels of boxes and tracks, and the rule for a box and a track whose labels differ.
pub mod Label
