-- The distances of boxes and tracks, as they are called within a frame. MhDist is the definition; Sizes says when a call is accepted, and Known computes examples.
-- Private is only for the contracts between private functions.
--
-- For n boxes and m tracks a caller lends flat slices: four corners of each box, and of the tracks, after predict, in one pass over them, x (get_kf_state) and sigma (sigma_inv), four each.
-- get_mh_dist_matrix stores the n × m distances.
pub mod MhDist
pub mod Sizes
pub mod Known
pub mod Private
