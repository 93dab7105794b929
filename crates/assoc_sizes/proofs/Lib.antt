-- What an accepted call knows of its sizes.
pub mod Verdicts
