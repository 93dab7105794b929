-- `vectors::cells::draw` meets its contract. The loop's invariant: the first k cells are drawn, and the others as they were. Assumes nothing.
use mathlib.Core.Path.{refl}
use native.Mathlib.Omega.{arith}
use Rattle.laws.specs.Tab.{fill_start, fill_whole}
use Rattle.vectors.proofs.Drawing.{more}
use Rattle.vectors.proofs.cells.draw.Goals as goal

pub loop-k-preserved : goal.loop-k-preserved
loop-k-preserved c = more _ _ _ _ _ _ _ _ c.loop-k.invariant (omega (arith, c.loop-k-test.true, c.loop-k.invariant.same)) c.cell.ensures

pub loop-k-init : goal.loop-k-init
loop-k-init c = fill_start _ _ _

pub shape_of-out : goal.shape_of-out
shape_of-out c = c.loop-k.invariant.same

pub returns : goal.returns
returns c = fill_whole _ _ _ c.loop-k.invariant (omega (arith, c.loop-k-test.false, c.loop-k.invariant.same)) refl
