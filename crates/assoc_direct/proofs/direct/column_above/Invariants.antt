-- `direct::column_above` meets its contract. The loop's invariant: no cell from `j` on is above the threshold. Assumes nothing.
use Rattle.assoc_direct.specs.Simple.{mask}
use Rattle.assoc_direct.proofs.DirectLaws.{Back}
use Rattle.assoc_direct.proofs.direct.column_above.Given as goal

abbrev pub invariant-loop-j : goal.invariant-loop-j
invariant-loop-j l = Back (mask l.cost.cells.now l.cost.ncols l.threshold l.i) l.cost.ncols l.j
