-- Theorem proves what specs/Laws.antt states, FieldFaults its part of a field. Walking has the loops over the fields, and Positions what the search for a byte that is no digit finds.
pub mod FieldFaults
pub mod Theorem
pub mod Walking
pub mod Positions
