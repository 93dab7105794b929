-- The invariant of `duo::min_mh_dist`: `least` is the least of the distances so far. Assumes nothing.
use lib.Ieee.{nan}
use lib.ListN.{get_or, length}
use Rattle.boost_tracker_duo.specs.Duo.{max_f32}
use Rattle.floats_pick.specs.Pick.{smaller}
use Rattle.laws.specs.Folding.{Folding}
use Rattle.boost_tracker_duo.proofs.duo.min_mh_dist.Given as goal

abbrev pub invariant-loop-distance : goal.invariant-loop-distance
invariant-loop-distance l = Folding (λ m k. smaller m (get_or l.row k nan)) max_f32 (length l.row) l.distance-index l.least
