-- The invariant of `batch::rows`: the rows before the one at hand are filled, and the other cells are as they were. Assumes nothing.
use Rattle.cells.specs.Filled.{RowsFilled}
use Rattle.assoc_similarity.specs.Overlap.{box_at}
use Rattle.assoc_similarity.proofs.batch.rows.Given as goal

abbrev pub invariant-loop-i : goal.invariant-loop-i
invariant-loop-i g l = RowsFilled (λ i j _. goal.F-post g l.measure (box_at l.detections i) j) l.i l.tracks l.initial.out l.out
