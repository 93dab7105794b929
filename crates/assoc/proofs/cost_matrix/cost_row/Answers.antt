-- `cost_matrix::cost_row` meets its contract. The loop's invariant: the first j cells are stored, and the others as they were. Assumes nothing.
use mathlib.Core.Path.{refl, ◌∙◌}
use native.Mathlib.Nat.{le_refl}
use lib.Ieee.{nan}
use Rattle.laws.specs.Tab.{fill_start, fill_on, fill_ahead, fill_whole}
use Rattle.assoc.proofs.cost_matrix.cost_row.Goals as goal

pub loop-j-preserved : goal.loop-j-preserved
loop-j-preserved c =
    let inv = c.loop-j.invariant in
    fill_on _ _ _ inv c.loop-j-test.true (le_refl _) (c.cost_cell.ensures ∙ rw (fill_ahead _ _ _ inv nan, c.box_at.ensures))

pub loop-j-init : goal.loop-j-init
loop-j-init c = fill_start _ _ _

pub shape_of-row : goal.shape_of-row
shape_of-row c = c.loop-j.invariant.same

pub returns : goal.returns
returns c = fill_whole _ _ _ c.loop-j.invariant c.loop-j-test.false refl
