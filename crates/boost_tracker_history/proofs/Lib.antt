-- Theorem proves what specs/Balance.antt, specs/Calls.antt and specs/Night.antt state, by EventLaws for one event. Known computes two histories of three events.
pub mod EventLaws
pub mod Theorem
pub mod Known
