-- The invariant of `fill`: the cells before the one at hand are made, and the others are as they were. Assumes nothing.
use Rattle.cells.proofs.FillLaws.{Filling}
use Rattle.cells.proofs.fill.Given as goal

abbrev pub invariant-loop-j : goal.invariant-loop-j
invariant-loop-j g l = Filling (goal.F-post g l.cell) l.initial.cells l.j l.cells
