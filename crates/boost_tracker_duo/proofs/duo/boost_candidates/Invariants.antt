-- The invariant of `duo::boost_candidates`. The loop's invariant: of the indices before i the candidates are pushed, k of them. Assumes nothing.
use lib.Ieee.{nan}
use lib.ListN.{length}
use Rattle.boost_tracker_duo.specs.Duo.{is_candidate}
use Rattle.laws.specs.Collecting.{Collecting}
use Rattle.laws.specs.Grid.{cell_at}
use Rattle.boost_tracker_duo.proofs.duo.boost_candidates.Given as goal

abbrev pub invariant-loop-i : goal.invariant-loop-i
invariant-loop-i l = Collecting (is_candidate (cell_at nan l.tracks l.distance) l.thresh l.tracks l.scores) l.initial.out (length l.scores) l.i l.k l.out
