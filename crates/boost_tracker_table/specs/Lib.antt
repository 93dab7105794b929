-- The lent table of tracks. Table and Lent are the definitions; Private is only for the contracts between private functions.
-- Known computes examples. What a caller of the functions on the table needs is in proofs/Laws.antt.
pub mod Table
pub mod Lent
pub mod Private
pub mod Known
