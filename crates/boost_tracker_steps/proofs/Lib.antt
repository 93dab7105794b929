-- Laws that the proof of `advance` cites.
pub mod AdvanceLaws
