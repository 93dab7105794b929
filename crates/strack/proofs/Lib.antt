-- What upper layers need of a track. Assumes nothing.
pub mod Laws
