-- `direct::fill_columns` meets its contract. The loop's invariant: the rows before `i` have their columns. Assumes nothing.
use mathlib.Core.Path.{refl}
use native.Mathlib.Nat.{le_refl}
use native.Mathlib.Omega.{arith}
use Rattle.laws.specs.Tab.{fill_start, fill_on, fill_whole}
use Rattle.assoc_direct.specs.Simple.{mask}
use Rattle.assoc_direct.proofs.DirectLaws.{column_fits}
use Rattle.assoc_direct.proofs.direct.fill_columns.Goals as goal

pub overflow_cast-place : goal.overflow_cast-place
overflow_cast-place c = let a = c.args in omega (arith, column_fits (mask a.cost.cells.now a.cost.ncols a.threshold c.loop-i.i) c.column_above.ensures a.cost.sized.few-cols)

pub loop-i-preserved : goal.loop-i-preserved
loop-i-preserved c = fill_on _ _ _ c.loop-i.invariant c.loop-i-test.true (le_refl _) c.column_above.ensures

pub loop-i-init : goal.loop-i-init
loop-i-init c = fill_start _ _ _

pub returns : goal.returns
returns c = fill_whole _ _ _ c.loop-i.invariant c.loop-i-test.false refl
