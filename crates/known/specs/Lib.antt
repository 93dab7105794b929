-- The starred examples of document 01, of all layers, as rows of one table that the definitions yield.
pub mod Known
