-- `ca_dense` meets its contract. The invariant: each row is once some column's or once free, and the passes left give the whole. The bound on the scans keeps their sum small. Assumes nothing.
use Rattle.lapjv_definition.specs.Ca.{assigned, ca_from}
use Rattle.lapjv_definition.proofs.CaEnds.{CaInv}
use Rattle.lapjv_augmentation.proofs.ca.ca_dense.Given as goal

abbrev pub invariant-loop-row_n : goal.invariant-loop-row_n
invariant-loop-row_n l = CaInv l.costs.side l.n_free_rows l.free_rows l.costs.cells.now (ca_from l.costs.side l.costs.cells.now l.free_rows l.n_free_rows 0 (assigned l.initial.x l.initial.y l.initial.v 0)) l.pred l.d l.cols l.row_n (assigned l.x l.y l.v l.scans)
