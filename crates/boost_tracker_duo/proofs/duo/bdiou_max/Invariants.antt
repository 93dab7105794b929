-- The invariant of `duo::bdiou_max`. The loop's invariant: the first i maxima are stored, and the others as they were. Assumes nothing.
use lib.ListN.{length}
use Rattle.boost_tracker_duo.specs.Private.{own_max}
use Rattle.laws.specs.Tab.{Filling}
use Rattle.boost_tracker_duo.proofs.duo.bdiou_max.Given as goal

abbrev pub invariant-loop-i : goal.invariant-loop-i
invariant-loop-i l = Filling (own_max l.bboxes (length l.initial.max)) l.initial.max (length l.initial.max) l.i l.max
