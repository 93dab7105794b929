-- The answers of `rows::largest`. The invariant says that `most` is the largest of `start` and the cells before the one at hand. Assumes nothing.
use Rattle.laws.specs.Folding.{fold_on, fold_start}
use Rattle.boost_tracker_boosts.proofs.rows.largest.Goals as goal

pub loop-cell-preserved : goal.loop-cell-preserved
loop-cell-preserved c = fold_on c.loop-cell.invariant c.loop-cell-test.true c.max-most.ensures

pub loop-cell-init : goal.loop-cell-init
loop-cell-init c = fold_start
