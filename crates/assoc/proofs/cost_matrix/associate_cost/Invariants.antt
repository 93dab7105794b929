-- `cost_matrix::associate_cost` meets its contract. The loop's invariant: the first i rows are stored and the other cells are as they were. Assumes nothing.
use Prim.Native.Nat.{◌*◌}
use lib.Ieee.{nan}
use Rattle.laws.specs.Tab.{tab}
use Rattle.laws.specs.Grid.{Rowing, cell_at}
use Rattle.assoc_cost.specs.Cost.{cost_matrix}
use Rattle.assoc.proofs.cost_matrix.associate_cost.Given as goal

abbrev pub invariant-loop-i : goal.invariant-loop-i
invariant-loop-i l = Rowing (λ k. tab (cost_matrix l.params l.scene.detections.now l.scene.corners.now l.scene.track_confidence.now l.scene.detection_confidence.now (cell_at nan l.scene.tracks l.initial.cells) k) l.scene.tracks) l.scene.boxes l.scene.tracks l.initial.cells l.i (l.i * l.scene.tracks) l.cells
