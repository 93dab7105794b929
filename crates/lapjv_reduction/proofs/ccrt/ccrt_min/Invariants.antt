-- `ccrt_min` meets its contract. The invariant: what is left of the definition's passes gives the whole. Assumes nothing.
use Rattle.lapjv_definition.specs.Ccrt.{min_from}
use Rattle.lapjv_definition.proofs.CcrtLaws.{MinInv}
use Rattle.lapjv_reduction.proofs.ccrt.ccrt_min.Given as goal

abbrev pub invariant-loop-j2 : goal.invariant-loop-j2
invariant-loop-j2 l = MinInv l.costs.side l.costs.cells.now l.i l.j l.v (min_from l.costs.side l.costs.cells.now l.i l.j l.v l.costs.side 0 l.initial.min) l.j2 l.min
