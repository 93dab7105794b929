-- ReadyLaws proves that what specs/Ready.antt says of a frame follows from its verdict; SoundLaws has what callers need of a sound table; the others are laws that the proofs share. Assumes nothing.
pub mod Finite
pub mod Loading
pub mod Soundness
pub mod SoundLaws
pub mod ReadyLaws
