-- The invariant of `mh_dist::distance_row`. The loop's invariant: the first j cells are stored, and the others as they were. Assumes nothing.
use lib.ListN.{length}
use Rattle.boost_tracker_mh_dist.specs.Private.{distance_to}
use Rattle.laws.specs.Tab.{Filling}
use Rattle.boost_tracker_mh_dist.proofs.mh_dist.distance_row.Given as goal

abbrev pub invariant-loop-j : goal.invariant-loop-j
invariant-loop-j l = Filling (distance_to l.z l.x l.sigma) l.initial.row (length l.initial.row) l.j l.row
