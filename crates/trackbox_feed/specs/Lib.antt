-- trackbox over lent memory. Trackbox is the definition, from document 01: the text that is printed for the bytes that are read. Feed says what one call answers and leaves,
-- and Laws states that all calls together print what the definition says. Private is only for the contracts between private functions.
-- The proofs are in proofs/.
pub mod Trackbox
pub mod Feed
pub mod Private
pub mod Laws
