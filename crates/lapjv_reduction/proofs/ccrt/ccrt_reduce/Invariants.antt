-- `ccrt_reduce` meets its contract. The invariant: what is left of the definition's rows gives the whole, and no more rows are listed than passed. Assumes nothing.
use Rattle.lapjv_definition.specs.Ccrt.{reduced, reduce_from}
use Rattle.lapjv_definition.proofs.CcrtLaws.{RedInv}
use Rattle.lapjv_reduction.proofs.ccrt.ccrt_reduce.Given as goal

abbrev pub invariant-loop-i : goal.invariant-loop-i
invariant-loop-i l = RedInv l.costs.side l.costs.cells.now l.x l.unique (reduce_from l.costs.side l.costs.cells.now l.x l.unique l.costs.side 0 (reduced l.initial.free_rows 0 l.initial.v)) l.i l.n_free_rows l.free_rows l.v
