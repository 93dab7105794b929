-- `cost_matrix::cost_row` meets its contract. The loop's invariant: the first j cells are stored, and the others as they were. Assumes nothing.
use lib.ListN.{length, get_or}
use lib.Ieee.{nan}
use Rattle.laws.specs.Tab.{Filling}
use Rattle.floats.specs.Single.{plus_zero}
use Rattle.assoc_similarity.specs.Overlap.{box_at}
use Rattle.assoc_cost.specs.Cost.{cost_cell}
use Rattle.assoc.proofs.cost_matrix.cost_row.Given as goal

abbrev pub invariant-loop-j : goal.invariant-loop-j
invariant-loop-j l = Filling (λ k. cost_cell l.params l.det (box_at l.scene.corners.now k) (get_or l.scene.detection_confidence.now l.i plus_zero) (get_or l.scene.track_confidence.now k plus_zero) (get_or l.initial.row k nan)) l.initial.row (length l.initial.row) l.j l.row
