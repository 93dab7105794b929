-- Laws is for callers of `emit`, ConfidenceLaws says which confidences are put out. Assumes nothing.
pub mod Laws
pub mod ConfidenceLaws
