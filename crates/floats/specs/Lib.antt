-- The float functions of document 01 but those of floats_pick. Root, Power and Exponential are the definitions, in the document's order, the code of Power being in floats_power; Laws says what holds of them, proved in proofs/Theorem.antt, and Known computes the document's examples by them.
-- Single has the operations that the definitions of upper layers are written with.
-- Private is only for the contracts between private functions.
pub mod Single
pub mod Root
pub mod Power
pub mod Exponential
pub mod Laws
pub mod Known
pub mod Private
