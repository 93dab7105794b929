-- The DLO boost of the scores, as it is called within a frame. Dlo is the definition; Sizes says when a call is accepted, and Known computes examples.
-- Private is only for the contracts between private functions.
--
-- For n boxes and m tracks a caller lends flat slices. Of the boxes: four corners each, and the scores, which the boost changes in place.
-- Of the tracks, after predict, in one pass over them: corners (get_state), four each; confidence, and time since update as u32.
-- Of both the labels, a byte each; one that is not there is as label 0, so that no length of them is turned down: what a label is, the frame says.
-- Of both the n × m distances of boost_tracker_mh_dist: the boost with the rich similarity stores its mhd_sim over them, and any other does not look at them.
pub mod Dlo
pub mod Sizes
pub mod Known
pub mod Private
