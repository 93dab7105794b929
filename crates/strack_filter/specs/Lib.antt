-- The filter: KalmanFilter is the definition, of document 01's pairs and of the Rust's module over them.
pub mod KalmanFilter
