-- Laws and OneRow have what upper layers want: what the sizes of the boxes are where they fit, and what a matrix of one box is.
pub mod Laws
pub mod OneRow
