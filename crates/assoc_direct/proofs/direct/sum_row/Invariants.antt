-- The invariant of `direct::sum_row`: the row's sum is that of the cells before `j`, and the sums of the columns before `j` have the row in them. Assumes nothing.
use Rattle.assoc_direct.specs.Simple.{mask}
use Rattle.assoc_direct.proofs.DirectLaws.{Summing}
use Rattle.assoc_direct.proofs.direct.sum_row.Given as goal

abbrev pub invariant-loop-j : goal.invariant-loop-j
invariant-loop-j l = Summing (mask l.cost.cells.now l.cost.ncols l.threshold l.i) l.cost.ncols l.initial.sums l.j l.sum l.sums
