-- `direct::is_direct_with` meets its contract. The loop's invariant: each row before `i` has one hit at most, and the sums of the columns count the hits of those rows.
-- Assumes nothing.
use mathlib.Core.Path.{sym, ◌∙◌}
use Rattle.assoc_direct.proofs.DirectLaws.{rows-begin, rows_same, rows_in, rows_next, direct_no, direct_end}
use Rattle.assoc_direct.proofs.direct.is_direct_with.Goals as goal

pub sum_row-sum-requires : goal.sum_row-sum-requires
sum_row-sum-requires c = record { row = c.loop-i-test.true; columns = rows_in _ _ _ _ c.loop-i.invariant c.loop-i-test.true c.args.cost.sized }

pub returns-then-sum-gt1 : goal.returns-then-sum-gt1
returns-then-sum-gt1 c = direct_no _ _ _ _ c.loop-i-test.true c.sum_row-sum.ensures c.if-sum-gt1.true

pub loop-i-preserved : goal.loop-i-preserved
loop-i-preserved c = rows_next _ _ _ _ c.loop-i.invariant c.loop-i-test.true c.sum_row-sum.ensures c.if-sum-gt1.false

pub shape_of-sums : goal.shape_of-sums
shape_of-sums c = rows_same _ _ _ _ c.loop-i.invariant ∙ sym c.requires.same

pub returns : goal.returns
returns c = direct_end _ _ _ _ c.loop-i.invariant c.loop-i-test.false c.at_most_one.ensures

pub loop-i-init : goal.loop-i-init
loop-i-init c = rows-begin _ _ _ _ c.requires
