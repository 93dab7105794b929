-- `direct::fill_columns` meets its contract. The loop's invariant: the rows before `i` have their columns. Assumes nothing.
use lib.ListN.{length}
use Rattle.laws.specs.Tab.{Filling}
use Rattle.assoc_direct.specs.Rows.{direct_column}
use Rattle.assoc_direct.proofs.direct.fill_columns.Given as goal

abbrev pub invariant-loop-i : goal.invariant-loop-i
invariant-loop-i l = Filling (direct_column l.cost.cells.now l.cost.ncols l.threshold) l.initial.partner (length l.initial.partner) l.i l.partner
