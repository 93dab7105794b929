-- `scan_row` meets its contract. The invariant: what is left of the definition's passes gives the whole, and hi is at most k. Assumes nothing.
use Prim.Native.Nat.{◌-◌}
use Rattle.lapjv_definition.specs.Scan.{scanning, scan_from}
use Rattle.lapjv_definition.proofs.ScanLaws.{ScanInv}
use Rattle.lapjv_augmentation.proofs.scan.scan_row.Given as goal

abbrev pub invariant-loop-k : goal.invariant-loop-k
invariant-loop-k l = ScanInv l.costs.side l.costs.cells.now l.y l.v l.i l.h l.mind (scan_from l.costs.side l.costs.cells.now l.y l.v l.i l.h l.mind (l.costs.side - l.initial.k) l.initial.k (scanning l.initial.d l.initial.cols l.initial.pred l.initial.hi l.costs.side)) l.d l.cols l.pred l.hi l.k
