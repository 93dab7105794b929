-- `ccrt_rows` meets its contract. The invariant: what is left of the definition's rows gives the whole. Assumes nothing.
use Rattle.lapjv_definition.specs.Ccrt.{prices, rows_from}
use Rattle.lapjv_definition.proofs.CcrtLaws.{RowsInv}
use Rattle.lapjv_reduction.proofs.ccrt.ccrt_rows.Given as goal

abbrev pub invariant-loop-i : goal.invariant-loop-i
invariant-loop-i l = RowsInv l.costs.side l.costs.cells.now (rows_from l.costs.side l.costs.cells.now l.costs.side 0 (prices l.initial.y l.initial.v)) l.i l.y l.v
