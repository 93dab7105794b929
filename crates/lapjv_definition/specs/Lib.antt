-- What a reader must believe of the assignment, in the order of lapjv.rs: Cost, Entry, Ccrt, Carr, Find, Scan, Path, Ca, Lapjv; its two halves, Halves; then a known result, and
-- the theorems, Bounds. Private and Invariant are cited by the contracts of private functions alone.
pub mod Cost
pub mod Entry
pub mod Ccrt
pub mod Carr
pub mod Find
pub mod Scan
pub mod Path
pub mod Ca
pub mod Lapjv
pub mod Halves
pub mod Examples
pub mod Bounds
pub mod Private
pub mod Invariant
