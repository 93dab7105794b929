-- `scan_dense` meets its contract. The invariant: what is left of the definition's scans gives the whole, and the columns before hi have rows (`SearchOk`); the measure is what is left of n. Assumes nothing.
use Prim.Native.Nat.{◌-◌}
use Rattle.lapjv_definition.specs.Scan.{scanning, scan_all}
use Rattle.lapjv_definition.proofs.SearchLaws.{AllInv}
use Rattle.lapjv_augmentation.proofs.scan.scan_dense.Given as goal

abbrev pub invariant-loop-lo : goal.invariant-loop-lo
invariant-loop-lo l = AllInv l.costs.side l.costs.cells.now l.y l.v (scan_all l.costs.side l.costs.cells.now l.y l.v (l.costs.side - l.lo0) l.lo0 0 (scanning l.initial.d l.initial.cols l.initial.pred l.hi0 l.costs.side)) l.lo l.hi l.scans l.d l.cols l.pred

abbrev pub decreases-loop-lo : goal.decreases-loop-lo
decreases-loop-lo l = l.costs.side - l.lo
