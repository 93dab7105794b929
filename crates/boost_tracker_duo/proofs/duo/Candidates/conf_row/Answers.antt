-- The answers of `duo::Candidates::conf_row`: it meets its contract. Its invariant is in Invariants.antt. Assumes nothing.
use Rattle.boost_tracker_duo.specs.Private.{conf_row}
use Rattle.laws.specs.Folding.{fold_end, fold_on, fold_start}
use Rattle.boost_tracker_duo.proofs.duo.Candidates.conf_row.Goals as goal

pub loop-j-preserved : goal.loop-j-preserved
loop-j-preserved c = fold_on c.loop-j.invariant c.loop-j-test.true c.conf_with-most.ensures

pub returns : goal.returns
unfolding conf_row
returns c = fold_end c.loop-j.invariant c.loop-j-test.false

pub loop-j-init : goal.loop-j-init
loop-j-init c = fold_start
