-- `direct::write_directly` meets its contract. The loop's invariant: the pairs of the rows before `i` are written, `k` of them. Assumes nothing.
use Rattle.assoc_direct.specs.Rows.{pairs_of, direct_column, Wrote}
use Rattle.assoc_direct.proofs.direct.write_directly.Given as goal

abbrev pub invariant-loop-i : goal.invariant-loop-i
invariant-loop-i l = Wrote (pairs_of l.cost.ncols (direct_column l.cost.cells.now l.cost.ncols l.threshold) l.i) l.initial.boxes l.initial.tracks l.k l.boxes l.tracks
