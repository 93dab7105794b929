-- The answers of `duo::raise`: it meets its contract. Its invariant is in Invariants.antt. Assumes nothing.
use Rattle.boost_tracker_duo.specs.Private.{raised_by}
use Rattle.laws.specs.Folding.{fold_end, fold_on, fold_start}
use Rattle.boost_tracker_duo.proofs.duo.raise.Goals as goal
use Rattle.boost_tracker_duo.proofs.duo.raise.Goals.{then-marks-i, else-marks-i}

pub loop-i-preserved : goal.loop-i-preserved
loop-i-preserved c =
    fold_on c.loop-i.invariant c.loop-i-test.true (elim c.if-marks-i.branch [ then-marks-i w ↦ rw w.if-marks-i.true w.scores-is | else-marks-i w ↦ rw w.if-marks-i.false w.scores-is ])

pub returns : goal.returns
unfolding raised_by
returns c = fold_end c.loop-i.invariant c.loop-i-test.false

pub loop-i-init : goal.loop-i-init
loop-i-init c = fold_start
