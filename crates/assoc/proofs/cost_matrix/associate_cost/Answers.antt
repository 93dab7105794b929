-- `cost_matrix::associate_cost` meets its contract. The loop's invariant: the first i rows are stored and the other cells are as they were. Assumes nothing.
use mathlib.Core.Path.{◌∙◌}
use Prim.Native.Nat.{ℕ}
use native.Mathlib.Omega.{arith}
use Rattle.std.proofs.Common.{zero-mul}
use lib.ListN.{get_or}
use lib.Ieee.{Float, nan}
use Rattle.laws.specs.Tab.{length-tab}
use Rattle.laws.specs.Grid.{row_next, rows_start, row_room, row-part, row-over, rows_on, rows_end}
use Rattle.floats.specs.Single.{plus_zero}
use Rattle.assoc_similarity.specs.Overlap.{box_at}
use Rattle.assoc_cost.specs.Cost.{cost_cell}
use Rattle.assoc.proofs.cost_matrix.associate_cost.Goals as goal

pub cost_row-requires : goal.cost_row-requires
cost_row-requires c = rw (row-part c.loop-i.invariant c.loop-i-test.true) c.requires.corners_fit

pub loop-i-preserved : goal.loop-i-preserved
loop-i-preserved c =
    let given = c.args in
    let inv = c.loop-i.invariant in
    let i = c.loop-i.i in
    let cell : ℕ → Float → Float = λ j mh. cost_cell given.params (box_at given.scene.detections.now i) (box_at given.scene.corners.now j) (get_or given.scene.detection_confidence.now i plus_zero) (get_or given.scene.track_confidence.now j plus_zero) mh in
    rw row_next (rows_on inv c.loop-i-test.true (λ k. length-tab _ _)
    (c.cost_row.ensures ∙ rw c.box_at.ensures (row-over inv c.loop-i-test.true (λ k. length-tab _ _) cell nan)))

pub loop-i-init : goal.loop-i-init
loop-i-init c = rw zero-mul (rows_start c.requires.room)

pub overflow_add-at : goal.overflow_add-at
overflow_add-at c = omega (arith, row_room c.loop-i.invariant c.loop-i-test.true)

pub offset_bounds-cells-at : goal.offset_bounds-cells-at
offset_bounds-cells-at c = omega (arith, row_room c.loop-i.invariant c.loop-i-test.true)

pub slice_bounds-cost_row-count : goal.slice_bounds-cost_row-count
slice_bounds-cost_row-count c = omega (arith, row_room c.loop-i.invariant c.loop-i-test.true)

pub slice_bounds-cost_row-start : goal.slice_bounds-cost_row-start
slice_bounds-cost_row-start c = omega (arith, row_room c.loop-i.invariant c.loop-i-test.true)

pub slice_bounds-cost_row-end : goal.slice_bounds-cost_row-end
slice_bounds-cost_row-end c = omega (arith, row_room c.loop-i.invariant c.loop-i-test.true)

pub shape_of-cells : goal.shape_of-cells
shape_of-cells c = c.loop-i.invariant.same

pub returns : goal.returns
returns c = rows_end c.loop-i.invariant c.loop-i-test.false
