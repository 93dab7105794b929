-- `association::set_unlike_cells` meets its contract. The loop's invariant: the first i rows are set and the other cells are as they were. Assumes nothing.
use Prim.Native.Nat.{◌*◌}
use lib.Ieee.{nan}
use Rattle.laws.specs.Tab.{tab}
use Rattle.laws.specs.Grid.{Rowing, cell_at}
use Rattle.labels.specs.Label.{same_label, alike, where_alike}
use Rattle.assoc.proofs.association.set_unlike_cells.Given as goal

abbrev pub invariant-loop-i : goal.invariant-loop-i
invariant-loop-i l = Rowing (λ k. tab (where_alike (alike same_label l.scene.box_labels.now l.scene.track_labels.now) (cell_at nan l.scene.tracks l.initial.cells) l.value k) l.scene.tracks) l.scene.boxes l.scene.tracks l.initial.cells l.i (l.i * l.scene.tracks) l.cells
