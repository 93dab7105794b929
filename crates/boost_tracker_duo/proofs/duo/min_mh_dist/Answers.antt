-- The answers of `duo::min_mh_dist`: it meets its contract. Its invariant is in Invariants.antt. Assumes nothing.
use Rattle.laws.specs.Folding.{fold_on, fold_start}
use Rattle.boost_tracker_duo.proofs.duo.min_mh_dist.Goals as goal

pub loop-distance-preserved : goal.loop-distance-preserved
loop-distance-preserved c = fold_on c.loop-distance.invariant c.loop-distance-test.true c.min-least.ensures

pub loop-distance-init : goal.loop-distance-init
loop-distance-init c = fold_start
