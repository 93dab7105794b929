-- `direct::is_direct_with` meets its contract. The loop's invariant: each row before `i` has one hit at most, and the sums of the columns count the hits of those rows.
-- Assumes nothing.
use Rattle.assoc_direct.proofs.DirectLaws.{Summed}
use Rattle.assoc_direct.proofs.direct.is_direct_with.Given as goal

abbrev pub invariant-loop-i : goal.invariant-loop-i
invariant-loop-i l = Summed l.cost.cells.now l.cost.nrows l.cost.ncols l.threshold l.i l.sums
