-- What filling a slice by a closure leaves.
pub mod Filled
