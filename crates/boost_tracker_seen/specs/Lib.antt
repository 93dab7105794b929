-- What is told of a box.
pub mod Seen
