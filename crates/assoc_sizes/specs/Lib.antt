-- When a call that fills a matrix is accepted.
pub mod Sizes
