-- The invariant of `mh_dist::distance_rows`. The loop's invariant: the first i rows are stored, the next starts at `at`, and the other cells are as they were. Assumes nothing.
use Prim.Native.Nat.{◌*◌}
use lib.Ieee.{nan}
use Rattle.boost_tracker_mh_dist.specs.MhDist.{mh_dist, z}
use Rattle.laws.specs.Grid.{Rowing, cell_at}
use Rattle.laws.specs.Tab.{tab}
use Rattle.boost_tracker_mh_dist.proofs.mh_dist.distance_rows.Given as goal

abbrev pub invariant-loop-i : goal.invariant-loop-i
invariant-loop-i l = Rowing (λ k. tab (mh_dist (z l.detections) (cell_at nan 4 l.x) (cell_at nan 4 l.sigma) k) l.tracks) l.boxes l.tracks l.initial.out l.i (l.i * l.tracks) l.out
