-- A frame of the tracker. Frame says what a call answers and leaves, by the definition that stands in boost_tracker_definition; Whole that a frame is worked whole or turned down; Cap that the setting cap_confidence changes
-- the records that are written and nothing else; Unlabelled that with one label everywhere all is as it was before labels.
-- Private is only for the contracts between private functions.
pub mod Frame
pub mod Private
pub mod Whole
pub mod Cap
pub mod Unlabelled
