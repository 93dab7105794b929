-- The invariant of `fill_rows`: the rows before the one at hand are made, and the other cells are as they were. Assumes nothing.
use Rattle.cells.specs.Filled.{RowsFilled}
use Rattle.cells.proofs.fill_rows.Given as goal

abbrev pub invariant-loop-i : goal.invariant-loop-i
invariant-loop-i g l = RowsFilled (goal.F-post g l.cell) l.i-counter l.columns l.initial.cells l.cells
