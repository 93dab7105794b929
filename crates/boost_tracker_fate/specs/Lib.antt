-- What became of a box, and the track that it was paired with: what the definition of boost_tracker_why cites and that speaks of no frame. Private is only for the contracts between functions.
pub mod Fate
pub mod Partner
pub mod Private
