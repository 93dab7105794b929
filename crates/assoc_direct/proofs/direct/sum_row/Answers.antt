-- `direct::sum_row` meets its contract. The loop's invariant: the row's sum is that of the cells before `j`, and the sums of the columns before `j` have the row in them.
-- Assumes nothing.
use mathlib.Core.Path.{◌∙◌}
use native.Mathlib.Omega.{arith}
use Rattle.assoc_direct.specs.Simple.{above}
use Rattle.assoc_direct.proofs.DirectLaws.{sum-start, sum_same, sum-few, sum-on, sum-end}
use Rattle.assoc_direct.proofs.direct.sum_row.Goals as goal

pub one_more-sum-requires : goal.one_more-sum-requires
one_more-sum-requires c = sum-few _ _ _ c.loop-j.invariant c.loop-j-test.true c.args.cost.sized.few-cols

pub one_more-requires : goal.one_more-requires
one_more-requires c = omega (arith, sum_same _ _ _ c.loop-j.invariant, c.requires.columns.small c.loop-j.j c.loop-j-test.true)

pub loop-j-preserved : goal.loop-j-preserved
unfolding above
loop-j-preserved c = sum-on _ _ _ c.loop-j.invariant c.loop-j-test.true c.requires.columns.same (c.one_more-sum.ensures ∙ rw c.at-c.ensures) (c.one_more.ensures ∙ rw c.at-c.ensures)

pub loop-j-init : goal.loop-j-init
loop-j-init c = sum-start _ _ _

pub returns : goal.returns
returns c = sum-end _ _ _ c.loop-j.invariant c.loop-j-test.false c.requires.columns.same
