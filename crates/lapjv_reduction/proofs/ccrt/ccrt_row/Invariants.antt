-- `ccrt_row` meets its contract. The invariant: what is left of the definition's passes gives the whole. Assumes nothing.
use Rattle.lapjv_definition.specs.Ccrt.{prices, row_from}
use Rattle.lapjv_definition.proofs.CcrtLaws.{RowInv}
use Rattle.lapjv_reduction.proofs.ccrt.ccrt_row.Given as goal

abbrev pub invariant-loop-j : goal.invariant-loop-j
invariant-loop-j l = RowInv l.costs.side l.costs.cells.now l.i (row_from l.costs.side l.costs.cells.now l.i l.costs.side 0 (prices l.initial.y l.initial.v)) l.j l.y l.v
