-- The theorems of the definition are in Theorem, and their parts in Pairs, Rounds, Own and the files whose names end in Ends. Those whose names end in Laws
-- also serve the loops of the code, in crates/lapjv_reduction and crates/lapjv_augmentation.
pub mod Theorem
pub mod AugmentLaws
pub mod CaEnds
pub mod CarrEnds
pub mod CarrLaws
pub mod CcrtEnds
pub mod CcrtLaws
pub mod CostLaws
pub mod EntryLaws
pub mod FindLaws
pub mod FoundLaws
pub mod HalvesLaws
pub mod LoopEnds
pub mod Own
pub mod Pairs
pub mod PathLaws
pub mod Rounds
pub mod ScanLaws
pub mod SearchEnds
pub mod SearchLaws
