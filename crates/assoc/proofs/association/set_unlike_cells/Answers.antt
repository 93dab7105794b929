-- `association::set_unlike_cells` meets its contract. The loop's invariant: the first i rows are set and the other cells are as they were. Assumes nothing.
use mathlib.Core.Path.{◌∙◌}
use mathlib.Core.Bool.{cond}
use Prim.Native.Nat.{ℕ}
use native.Mathlib.Omega.{arith}
use Rattle.std.proofs.Common.{zero-mul}
use lib.Ieee.{Float, nan}
use Rattle.laws.specs.Tab.{length-tab}
use Rattle.laws.specs.Grid.{row_next, rows_start, row_room, row-over, rows_on, rows_end}
use Rattle.labels.specs.Label.{label_at, same_label}
use Rattle.assoc.proofs.association.set_unlike_cells.Goals as goal

pub loop-i-preserved : goal.loop-i-preserved
loop-i-preserved c =
    let given = c.args in
    let inv = c.loop-i.invariant in
    let i = c.loop-i.i in
    let cell : ℕ → Float → Float = λ j x. cond (same_label (label_at given.scene.box_labels.now i) (label_at given.scene.track_labels.now j)) x given.value in
    rw row_next (rows_on inv c.loop-i-test.true (λ k. length-tab _ _)
    (c.set_unlike.ensures ∙ rw c.label_at.ensures (row-over inv c.loop-i-test.true (λ k. length-tab _ _) cell nan)))

pub loop-i-init : goal.loop-i-init
loop-i-init c = rw zero-mul (rows_start c.requires)

pub overflow_add-at : goal.overflow_add-at
overflow_add-at c = omega (arith, row_room c.loop-i.invariant c.loop-i-test.true)

pub offset_bounds-cells-at : goal.offset_bounds-cells-at
offset_bounds-cells-at c = omega (arith, row_room c.loop-i.invariant c.loop-i-test.true)

pub slice_bounds-set_unlike-count : goal.slice_bounds-set_unlike-count
slice_bounds-set_unlike-count c = omega (arith, row_room c.loop-i.invariant c.loop-i-test.true)

pub slice_bounds-set_unlike-start : goal.slice_bounds-set_unlike-start
slice_bounds-set_unlike-start c = omega (arith, row_room c.loop-i.invariant c.loop-i-test.true)

pub slice_bounds-set_unlike-end : goal.slice_bounds-set_unlike-end
slice_bounds-set_unlike-end c = omega (arith, row_room c.loop-i.invariant c.loop-i-test.true)

pub shape_of-cells : goal.shape_of-cells
shape_of-cells c = c.loop-i.invariant.same

pub returns : goal.returns
returns c = rows_end c.loop-i.invariant c.loop-i-test.false
