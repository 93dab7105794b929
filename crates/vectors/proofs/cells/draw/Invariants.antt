-- `vectors::cells::draw` meets its contract. The loop's invariant: the first k cells are drawn, and the others as they were. Assumes nothing.
use lib.ListN.{length, get_or}
use lib.Ieee.{nan}
use Rattle.laws.specs.Tab.{Filling}
use Rattle.vectors.specs.Cells.{cell}
use Rattle.vectors.proofs.cells.draw.Given as goal

abbrev pub invariant-loop-k : goal.invariant-loop-k
invariant-loop-k l = Filling (λ i. cell l.seed l.spread l.step l.from i (get_or l.initial.out i nan)) l.initial.out (length l.initial.out) l.k l.out
