-- The DUO boost of the scores, as it is called within a frame. Duo is the definition, from the Rust, and Known computes an example.
-- Private is only for the contracts between private functions. When a call is accepted is said in boost_tracker_boosts, of both boosts.
--
-- For n boxes and m tracks a caller lends flat slices: four corners for each box, the n × m distances that get_mh_dist_matrix stored, and the scores, which the boost changes in place.
pub mod Duo
pub mod Known
pub mod Private
