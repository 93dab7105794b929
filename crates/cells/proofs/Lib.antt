-- What callers know of a list, and of a matrix, that was filled.
pub mod FillLaws
pub mod RowLaws
