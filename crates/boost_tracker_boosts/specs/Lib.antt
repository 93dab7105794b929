-- What both boosts of the scores share. Sizes says when a call is accepted, and what it leaves then, and Rows the row of one box.
-- Examples has the boxes and numbers that the boosts' examples are written with.
pub mod Sizes
pub mod Rows
pub mod Examples
